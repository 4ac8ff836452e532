-- the laws of the identifiers of the crate palindromes
pub mod Identifiers
