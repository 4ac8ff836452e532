-- the answer of a text
pub mod Answering
-- and that of the text in capitals
pub mod Capitals
