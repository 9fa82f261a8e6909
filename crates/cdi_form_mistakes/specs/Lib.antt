pub mod Written
pub mod UnknownWord
pub mod Mistake
pub mod FormMistake
pub mod NumberMistake
pub mod NameMistake
pub mod StepMistake
pub mod Steps
