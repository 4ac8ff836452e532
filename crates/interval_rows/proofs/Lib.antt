pub mod Ways
pub mod Mirrored
