-- stretches whose facing sets meet
pub mod Facing
-- the steps of the search for the longest
pub mod Search
