pub mod Groupings
pub mod HeardGroups
pub mod OneGrouping
pub mod Retained
pub mod Rising
pub mod RunGroups
pub mod Sorting
pub mod Those
