pub mod NoFloats
pub mod Complete
