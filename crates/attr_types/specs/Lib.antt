pub mod Asked
pub mod BothSides
pub mod Phases
pub mod Written
