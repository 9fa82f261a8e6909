pub mod ClaimSets
pub mod Duplicates
pub mod NameSteps
pub mod SoundTypes
