-- what an addition promises, on plain values
pub mod Adding
