pub mod Advised
pub mod ShownChars
pub mod Taking
pub mod Told
pub mod Usage
