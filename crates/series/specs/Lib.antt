pub mod Series
pub mod Runs
pub mod Memory
