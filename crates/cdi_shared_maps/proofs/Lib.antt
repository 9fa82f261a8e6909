pub mod Views
pub mod Writes
