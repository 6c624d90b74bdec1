pub mod ArgumentSteps
pub mod CreatedClean
pub mod CreatedForms
pub mod Sizes
pub mod TypedClean
pub mod TypedForms
