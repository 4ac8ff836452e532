-- what is made of the letters that are set aside
pub mod Turns
