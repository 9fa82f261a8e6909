pub mod Cycle
pub mod Hierarchy
pub mod Needs
pub mod ToldCycle
