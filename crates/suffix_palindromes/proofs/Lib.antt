-- laws of numbers that are handed down the links: what a row gets once it is met, and what the numbers add up to
pub mod Handed
