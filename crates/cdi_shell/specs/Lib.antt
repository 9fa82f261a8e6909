pub mod Drive
pub mod Endings
pub mod Laws
pub mod Thrown
pub mod WorkedLines
