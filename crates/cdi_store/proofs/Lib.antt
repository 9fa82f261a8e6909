pub mod Absent
pub mod Entries
pub mod Kept
pub mod NumberEntries
pub mod Numbers
pub mod Owned
pub mod Owners
pub mod Slots
