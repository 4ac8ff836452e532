-- the set of every byte
pub mod Letters
-- a text read into sets
pub mod Reading
