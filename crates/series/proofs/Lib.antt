-- the laws of series: of words first, then of the rows of a table
pub mod Leading
pub mod SeriesCount
pub mod SeriesBound
pub mod Leaders
pub mod Runs
pub mod Memory
pub mod Reached
