pub mod Bytes
pub mod Rows
pub mod Opening
pub mod Addition
pub mod Removal
pub mod Turning
