pub mod Remembered
pub mod Sameness
pub mod SameUses
