pub mod LostTypes
pub mod Mapped
pub mod MixedNames
pub mod NameLists
pub mod PlaceSets
pub mod SharedNames
pub mod Tests
