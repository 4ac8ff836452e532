pub mod Line
pub mod ReadBack
