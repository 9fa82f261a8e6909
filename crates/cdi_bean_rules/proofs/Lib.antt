pub mod AllProblems
pub mod ConditionalPlaces
pub mod Counts
pub mod ObserverKinds
pub mod Pairs
pub mod SameRules
