pub mod Naming
pub mod Counters
