pub mod Marks
pub mod Noting
pub mod Numbers
pub mod Searching
