-- laws of what is kept with rows, and of the walk over series and its turns
pub mod Jumping
pub mod Walking
