pub mod Again
pub mod Canonical
pub mod Parts
pub mod Showing
