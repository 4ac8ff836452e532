-- what one turn of a loop takes off a definition, for the reference functions that have one; and the numbers of a range as a list
pub mod Turns
pub mod Ranges
