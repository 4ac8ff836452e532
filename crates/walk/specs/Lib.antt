pub mod Frame
pub mod Walk
pub mod Replay
pub mod Replaying
