pub mod Asked
pub mod Standing
pub mod Stack
pub mod Invocation
pub mod Members
pub mod FirstUse
pub mod Running
