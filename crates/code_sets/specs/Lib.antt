pub mod Kept
pub mod Members
pub mod Merges
pub mod Places
pub mod Words
