-- the laws of a sheet's marks, by subject
pub mod Missing
pub mod Totals
pub mod Bytes
pub mod Full
pub mod Canonical
pub mod Text
pub mod Own
pub mod Slips
