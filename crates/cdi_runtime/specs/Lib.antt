pub mod Standing
pub mod Refusals
pub mod Knowing
