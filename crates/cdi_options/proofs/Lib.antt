pub mod Faults
pub mod Found
pub mod Numbers
pub mod WorkedWords
