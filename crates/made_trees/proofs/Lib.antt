pub mod Arguments
pub mod Classes
mod Equations
mod Finding
pub mod Following
pub mod Higher
pub mod Kept
pub mod Lexical
pub mod Named
pub mod Naming
pub mod Nodes
mod Ordered
pub mod Readers
pub mod Small
pub mod Stands
pub mod Told
