pub mod Completing
pub mod Following
pub mod Made
pub mod MadeAsWritten
pub mod Marks
pub mod PartWay
pub mod Rounds
pub mod UncoveredClasses
