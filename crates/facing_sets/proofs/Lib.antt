-- the steps of the search
pub mod Search
-- what is found is what the definitions say
pub mod Found
