pub mod Order
pub mod OrderedSet
pub mod Qualifiers
pub mod Types
