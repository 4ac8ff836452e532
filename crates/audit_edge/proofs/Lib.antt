-- laws of the row that an edge leads to
pub mod Edge
