pub mod Scanning
pub mod Sentences
