-- the fifteen codes: what a computed test shows of each and of each two of them
pub mod Codes
-- the table of codes is complete, and either case is one code
pub mod Sets
-- the choices of a text
pub mod Choices
-- mirror repeats for some and for every choice, by facing places
pub mod Facing
-- the two lengths
pub mod Longest
-- texts of the four letters
pub mod Letters
-- either case
pub mod Capitals
