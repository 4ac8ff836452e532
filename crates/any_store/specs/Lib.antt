pub mod Contract
pub mod AnyStore
