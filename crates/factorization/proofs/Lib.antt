-- laws of the numbers of factors at all right ends, and of the ends
pub mod Filling
pub mod Tracing
