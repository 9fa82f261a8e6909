pub mod Events
pub mod Ids
pub mod Observers
pub mod Tables
