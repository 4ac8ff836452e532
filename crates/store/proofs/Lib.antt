pub mod Parts
pub mod Ends
pub mod Signed
pub mod Writes
pub mod Edges
pub mod Sizes
