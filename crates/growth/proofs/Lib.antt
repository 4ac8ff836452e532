-- laws by which the search for what a letter makes is understood
pub mod Growing
