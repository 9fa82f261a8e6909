pub mod FirstPlaces
pub mod Lines
pub mod Mapped
pub mod Reading
pub mod Served
pub mod Writing
