pub mod Layout
pub mod Writes
pub mod Good
pub mod Lengths
pub mod Side
