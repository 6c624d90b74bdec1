pub mod Accessors
pub mod Arena
pub mod Kept
pub mod Nodes
pub mod Parts
pub mod Terms
