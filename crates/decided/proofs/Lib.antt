-- every store is good or not
pub mod Decide
pub mod Shows
pub mod Good
