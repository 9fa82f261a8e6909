pub mod Each
pub mod Lists
pub mod Long
pub mod Passing
pub mod Rests
pub mod UseNames
pub mod Within
mod Course
pub mod Boxed
pub mod Following
pub mod Grown
pub mod Named
