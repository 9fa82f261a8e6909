pub mod Shapes
pub mod Chosen
