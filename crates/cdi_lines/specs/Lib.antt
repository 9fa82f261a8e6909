pub mod Calls
pub mod Ends
pub mod Faults
pub mod Lines
pub mod Served
pub mod Streams
