-- the answers of the calls
pub mod Asking
