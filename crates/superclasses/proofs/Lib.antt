pub mod Pigeonhole
pub mod Steps
pub mod Leaps
pub mod Lines
pub mod Walks
pub mod Marks
