pub mod Stacks
pub mod Data
