pub mod Circular
pub mod Counting
pub mod Late
pub mod Nothing
