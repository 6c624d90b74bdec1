pub mod Checked
pub mod Classes
pub mod Made
pub mod OneFault
pub mod OneWritten
pub mod Spelled
pub mod TreeSentences
