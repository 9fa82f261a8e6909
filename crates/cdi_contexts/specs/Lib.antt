pub mod Named
pub mod Contexts
pub mod Refusals
pub mod Standing
pub mod Group
pub mod Places
