pub mod Entries
pub mod Slots
pub mod ByName
pub mod Begins
pub mod Indexed
pub mod Numbers
pub mod Orderly
