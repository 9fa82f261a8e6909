pub mod Added
pub mod Flags
pub mod Forests
pub mod Free
pub mod Two
