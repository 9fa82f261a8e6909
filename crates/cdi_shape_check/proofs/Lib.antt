pub mod AddingShapes
pub mod Asking
pub mod Putting
pub mod SameAsked
pub mod SameParts
pub mod SetSteps
pub mod Split
