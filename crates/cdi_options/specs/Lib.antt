pub mod Options
pub mod WorkedWords
