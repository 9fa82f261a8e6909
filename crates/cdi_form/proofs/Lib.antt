pub mod Finds
pub mod Forms
pub mod Items
pub mod NamePlaces
pub mod Fronts
pub mod Lengths
