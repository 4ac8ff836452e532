-- laws of the list: what the marks tell, which line each letter brings, and how long the lines of a window are
pub mod Stores
pub mod Marking
pub mod Lines
pub mod Windows
