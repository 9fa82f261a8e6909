pub mod Parts
pub mod Items
pub mod Naming
pub mod Reading
pub mod Readable
