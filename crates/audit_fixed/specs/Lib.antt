pub mod Decides
pub mod Parts
pub mod Counting
