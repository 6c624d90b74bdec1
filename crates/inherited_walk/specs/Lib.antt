pub mod Climbing
pub mod Sites
pub mod Ways
