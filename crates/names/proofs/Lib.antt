pub mod Distinct
pub mod Keys
pub mod Known
pub mod Numbering
pub mod Once
