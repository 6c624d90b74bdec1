pub mod BodiesFound
pub mod KeptRules
pub mod Numbering
pub mod Places
pub mod Receiving
