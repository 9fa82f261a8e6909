pub mod Apart
pub mod Declared
pub mod Inheriting
pub mod Names
pub mod Observing
pub mod Producers
pub mod Serving
