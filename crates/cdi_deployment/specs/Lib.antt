pub mod DataCode
pub mod Limits
pub mod KnownNames
pub mod Member
pub mod Lists
