pub mod Live
pub mod NameIndex
pub mod NumberEntries
pub mod Owned
pub mod Slots
