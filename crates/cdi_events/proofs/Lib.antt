pub mod ContextSteps
pub mod EventSteps
pub mod KnownObservers
pub mod ObserverSteps
pub mod Sequences
