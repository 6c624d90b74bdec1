pub mod Joining
pub mod NamedSources
pub mod ReplyTexts
