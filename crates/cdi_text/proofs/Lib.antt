pub mod EntriesWithoutFloats
pub mod JsonReading
pub mod Lengths
pub mod NoFloats
pub mod ReplyLines
