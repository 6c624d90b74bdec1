pub mod JragSentences
pub mod OneReading
pub mod Read
