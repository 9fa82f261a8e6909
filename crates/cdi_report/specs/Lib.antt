pub mod OneReport
pub mod PlaceNames
pub mod Reports
pub mod Reviews
pub mod Verdicts
pub mod Facts
pub mod WellFormed
pub mod BadScripts
