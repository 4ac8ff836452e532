-- laws of what is tested and counted: the places of the order, from the ranks; edges that lead somewhere, and rows that say something; numbers of each letter; and the rows that the test has passed
pub mod Places
pub mod Edges
pub mod Filled
pub mod Letters
pub mod Passed
