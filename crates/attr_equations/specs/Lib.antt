pub mod Kept
pub mod KeptContributions
pub mod KeptEquations
pub mod Offered
