pub mod Pooled
pub mod Pooling
pub mod Quoted
