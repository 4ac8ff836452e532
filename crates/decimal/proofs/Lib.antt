-- the laws of the decimal digits of the crate palindromes, and of bytes stored one after the other
pub mod Decimal
pub mod Stores
