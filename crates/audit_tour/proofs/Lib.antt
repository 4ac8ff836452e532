-- laws of the tour: the marks, and what a letter more shows
pub mod Marks
pub mod Letter
