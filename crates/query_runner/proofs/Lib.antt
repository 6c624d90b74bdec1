pub mod OneAnswer
pub mod Preparing
