pub mod Changed
pub mod Reached
pub mod Taken
pub mod Begun
pub mod Homes
pub mod Idle
