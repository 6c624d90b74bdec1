pub mod Named
pub mod Replies
pub mod Singles
