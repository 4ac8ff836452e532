-- what a filled record lists
pub mod Listed
