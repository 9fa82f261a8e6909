pub mod Tables
pub mod Clones
pub mod Numbering
pub mod BuiltIns
pub mod Found
