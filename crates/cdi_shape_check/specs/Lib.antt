pub mod Application
pub mod AskedParts
pub mod BodyOutsideShape
pub mod OwnFindings
pub mod OwnParts
pub mod OwnTables
pub mod References
pub mod Targets
