pub mod Fetched
pub mod Files
pub mod Holding
pub mod Named
pub mod Taking
pub mod Words
