pub mod Places
pub mod FirstLine
