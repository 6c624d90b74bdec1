pub mod CodedSets
pub mod Ordered
