-- the laws of numbers held in bytes
pub mod Bytes
