-- what a text's reading prints
pub mod Answering
