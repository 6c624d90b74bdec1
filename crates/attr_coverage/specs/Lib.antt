pub mod Completeness
pub mod Covering
pub mod CoveringKept
pub mod Created
pub mod Dispatched
