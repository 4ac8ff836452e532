-- how the line of a refusal is written
pub mod RefusalLine
