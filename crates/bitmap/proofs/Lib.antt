-- laws of bits
pub mod Bits
