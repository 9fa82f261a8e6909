pub mod Groups
pub mod Observers
pub mod Order
pub mod Runs
