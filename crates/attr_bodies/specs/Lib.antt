pub mod Bodies
pub mod Created
pub mod Says
pub mod Seen
