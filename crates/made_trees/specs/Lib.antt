pub mod Made
pub mod Makers
pub mod Stands
pub mod Ordered
