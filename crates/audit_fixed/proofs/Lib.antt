-- laws of the tests that say nothing of palindromes: how a test's answer is used, and that a good store passes
pub mod Decided
pub mod Parts
-- how many numbers pass a test
pub mod Counting
