pub mod Numbers
pub mod AnyStore
