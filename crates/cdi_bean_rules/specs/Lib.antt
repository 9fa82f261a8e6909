pub mod Disposers
pub mod Limits
pub mod Observers
pub mod Tiers
