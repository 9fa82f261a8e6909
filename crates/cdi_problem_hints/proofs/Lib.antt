pub mod Upward
pub mod Where
