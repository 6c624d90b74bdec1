pub mod Expressions
pub mod Items
