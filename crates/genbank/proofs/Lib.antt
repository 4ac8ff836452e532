-- the laws of the page: a word cut into lines and groups, how long they are, the arrays of a line, and what a writer has still to write
pub mod Cut
pub mod Size
pub mod ReadBack
pub mod Groups
pub mod Lines
pub mod Unwritten
