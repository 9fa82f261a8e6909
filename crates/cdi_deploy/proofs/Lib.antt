pub mod Covered
pub mod Known
pub mod Readable
pub mod Tables
