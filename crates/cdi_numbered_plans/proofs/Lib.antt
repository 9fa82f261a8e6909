pub mod Empty
pub mod FirstMethods
pub mod Lists
pub mod Resolving
pub mod Told
pub mod Within
