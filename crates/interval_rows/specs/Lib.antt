pub mod IntervalRow
pub mod Propositions
