pub mod Calls
pub mod Created
pub mod Fitting
pub mod Parts
pub mod Places
pub mod SetForms
pub mod Standing
pub mod Typed
