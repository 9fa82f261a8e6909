pub mod Candidates
pub mod Near
pub mod Tables
