-- laws of a rule that is lent as a table
pub mod Rules
