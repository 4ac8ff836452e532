-- the fifteen codes, their bases and their sets
pub mod Code
-- the choices of bases for a text
pub mod Choice
-- the two lengths
pub mod Longest
-- the same by places that face each other
pub mod Facing
