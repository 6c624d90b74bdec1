pub mod AccessorsFound
pub mod AttributesFound
pub mod ClassesFound
pub mod Gathering
pub mod ItemsFound
pub mod Seen
