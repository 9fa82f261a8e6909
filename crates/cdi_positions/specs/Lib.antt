pub mod Position
pub mod RepeatedKey
pub mod Pointers
