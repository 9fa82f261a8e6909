pub mod Answers
pub mod Events
pub mod Shape
pub mod Gives
pub mod Adding
pub mod Table
pub mod Choices
pub mod Picks
