pub mod Greatest
pub mod One
pub mod Sole
