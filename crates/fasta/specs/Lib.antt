pub mod Reader
pub mod Capitals
