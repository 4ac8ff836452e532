-- the rows that the tour met and the edges that lead to them, counted; a store that passes every test is good, and a good one passes
pub mod Marked
pub mod Whole
pub mod Passes
