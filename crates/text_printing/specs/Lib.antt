pub mod PrintedFor
pub mod Read
