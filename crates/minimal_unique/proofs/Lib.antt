-- which rows hold minimal unique palindromes; right end by right end; their bytes
pub mod Rows
pub mod Ends
pub mod Written
