pub mod Full
pub mod Slip
