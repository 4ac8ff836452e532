-- how a record fills
pub mod Filling
