pub mod CallSteps
pub mod ReferenceSteps
