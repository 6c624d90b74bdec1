pub mod Bits
pub mod Made
pub mod Merging
pub mod Rising
pub mod Sameness
pub mod Searching
pub mod Success
pub mod Words
