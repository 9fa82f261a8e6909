pub mod Answers
pub mod Written
