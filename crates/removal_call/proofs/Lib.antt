-- what a removal promises, on plain values
pub mod Removing
