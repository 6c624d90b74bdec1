pub mod ArgumentsGathered
pub mod FormsTyped
pub mod ListsTyped
pub mod MembersTyped
pub mod RangesTyped
pub mod SetFormsTyped
pub mod Variables
