pub mod Elements
pub mod Findings
pub mod PlaceKeys
pub mod Places
pub mod Words
