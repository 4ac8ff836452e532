pub mod Frequencies
pub mod Counts
