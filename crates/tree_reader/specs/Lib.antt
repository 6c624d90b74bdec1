pub mod Breaking
pub mod FromBytes
pub mod Grown
pub mod Laying
pub mod Reading
pub mod Steps
pub mod Wants
