pub mod Chains
pub mod Accepted
pub mod Ties
