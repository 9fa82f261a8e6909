pub mod Claims
pub mod CyclicHierarchy
pub mod DuplicateName
pub mod NameProblems
pub mod NameSets
pub mod UnknownName
