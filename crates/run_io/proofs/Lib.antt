pub mod Pieces
pub mod Stopping
