pub mod Answers
pub mod Codes
pub mod Notes
pub mod Order
