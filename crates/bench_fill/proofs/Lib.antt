-- what filling promises
pub mod Filling
