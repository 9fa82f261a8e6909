pub mod Accepted
pub mod Adding
