pub mod Beans
pub mod Completed
pub mod Lives
pub mod Parts
pub mod Steps
