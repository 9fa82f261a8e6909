pub mod Missing
pub mod Thrown
pub mod Worked
pub mod Fits
pub mod Replies
pub mod Beginnings
pub mod WorkedFarewells
