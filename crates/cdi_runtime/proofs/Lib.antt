pub mod Lists
pub mod Served
pub mod Refusing
pub mod Knowing
