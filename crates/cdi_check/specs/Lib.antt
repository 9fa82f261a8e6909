pub mod Accepted
pub mod BeanRules
pub mod Late
pub mod Problems
pub mod Tables
