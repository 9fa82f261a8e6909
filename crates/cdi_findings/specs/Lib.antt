pub mod Faults
pub mod Finding
pub mod Findings
pub mod Tables
pub mod Warnings
pub mod Explanation
pub mod Words
