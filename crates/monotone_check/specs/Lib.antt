pub mod Equations
pub mod Kept
pub mod Parts
pub mod Permitted
pub mod Positions
pub mod Ways
