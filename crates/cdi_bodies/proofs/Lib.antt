pub mod Events
pub mod Given
mod Exceptions
