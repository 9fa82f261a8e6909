pub mod ClassLives
pub mod Inheriting
pub mod Kept
pub mod Lives
