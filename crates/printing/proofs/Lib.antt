-- what a text prints by its length, and how many bytes
pub mod Answering
-- and what one prints in small letters
pub mod Capitals
