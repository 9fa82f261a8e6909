pub mod Bound
pub mod Places
mod SameChains
mod SameQualifiers
pub mod Some
