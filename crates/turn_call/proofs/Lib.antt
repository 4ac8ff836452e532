-- what a change of the reading promises, on plain values
pub mod Turns
