pub mod Upper
pub mod LaterLines
pub mod Counting
pub mod Writing
