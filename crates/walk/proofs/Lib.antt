-- laws of the walk and of the replay: what each finds, at either end
pub mod Chains
pub mod Turns
pub mod Found
pub mod Towards
pub mod Facing
pub mod Stores
pub mod Reading
pub mod Links
pub mod Replaying
