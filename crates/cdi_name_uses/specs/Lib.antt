pub mod Groups
pub mod Unknown
pub mod Uses
pub mod Known
pub mod StepNames
pub mod UnknownStepName
