pub mod Evaluations
pub mod Passed
pub mod Roots
pub mod Spots
pub mod Surveys
pub mod Walks
