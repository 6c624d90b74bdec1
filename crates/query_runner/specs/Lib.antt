pub mod Answered
pub mod Output
pub mod Run
