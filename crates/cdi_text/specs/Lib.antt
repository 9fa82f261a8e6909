pub mod Command
pub mod EntryText
pub mod ReplyText
