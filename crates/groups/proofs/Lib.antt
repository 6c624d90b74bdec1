pub mod Numbers
pub mod Members
pub mod Joined
pub mod Advancing
pub mod Starts
pub mod Laying
pub mod Placing
