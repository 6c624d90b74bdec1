pub mod Advancing
pub mod Left
pub mod Local
pub mod Looking
pub mod Parts
pub mod Rising
pub mod Sealed
pub mod Visiting
