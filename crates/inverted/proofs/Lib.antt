-- what is so of inverted records alone, of records without a repeat, and of a store whose reading is changed
pub mod Repeats
pub mod Without
pub mod Told
pub mod Empty
