pub mod Answering
pub mod Accepted
pub mod Capitals
