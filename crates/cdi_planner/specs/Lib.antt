pub mod Apart
pub mod Codes
pub mod Inherited
pub mod Observers
pub mod Plans
pub mod Products
pub mod Steps
pub mod Tables
