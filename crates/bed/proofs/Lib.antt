-- the laws of the BED lines of the crate palindromes, by subject
pub mod Line
pub mod Listing
pub mod Written
