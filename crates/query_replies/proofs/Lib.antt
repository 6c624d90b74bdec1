pub mod Answered
pub mod OneReply
pub mod ReplyLines
pub mod Sources
