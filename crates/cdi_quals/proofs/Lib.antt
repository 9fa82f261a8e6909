pub mod Having
pub mod Orders
pub mod Pairs
pub mod OrderedSets
pub mod TypeLists
