-- what an opening promises, on plain values
pub mod Opening
