pub mod Answering
pub mod Clean
pub mod Exits
pub mod Noting
pub mod Order
pub mod Rules
pub mod Sets
