-- how often palindromes stand with one letter more, as far as 2
pub mod Marks
