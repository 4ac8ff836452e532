-- laws of the lengths that are counted
pub mod Lengths
pub mod Counting
