pub mod Groups
pub mod Starts
