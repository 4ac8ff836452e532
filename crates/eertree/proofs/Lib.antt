-- laws of tables that show an eertree
pub mod Covers
pub mod Rows
pub mod Nodes
pub mod Grow
pub mod Lengths
pub mod Shrink
pub mod Replay
pub mod Entries
