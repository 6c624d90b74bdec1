pub mod Searching
pub mod Waiting
