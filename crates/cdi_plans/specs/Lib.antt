pub mod BeanBindings
pub mod Bindings
pub mod Chains
pub mod Meeting
