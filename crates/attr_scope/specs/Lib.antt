pub mod Classes
pub mod Scope
pub mod ScopeKept
pub mod Seen
pub mod Written
pub mod WrittenTypes
