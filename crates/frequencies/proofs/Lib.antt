-- how the numbers of the rows come to be the frequencies
pub mod Weigh
pub mod Counting
pub mod Handing
