mod Arguments
mod Climbing
pub mod Classes
mod Known
pub mod Walking
