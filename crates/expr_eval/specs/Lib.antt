pub mod Elements
pub mod Evaluating
pub mod Going
pub mod Made
pub mod Parts
pub mod Reads
pub mod Saved
pub mod Sites
