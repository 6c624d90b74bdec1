pub mod Building
pub mod FromBytes
pub mod Grammar
pub mod Kept
pub mod Reading
pub mod Written
