-- the laws that the loops go by: what one turn takes off a definition
pub mod Pieces
