pub mod Superclasses
pub mod Rows
