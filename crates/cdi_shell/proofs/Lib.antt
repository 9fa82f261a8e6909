pub mod Attended
pub mod Determined
pub mod Holding
pub mod OneOutput
pub mod Playing
pub mod Scripted
pub mod Tabled
pub mod Wider
pub mod WorkedLines
pub mod Thrown
pub mod Serving
pub mod StandIns
pub mod LessLegal
pub mod Lookups
pub mod SoundScripts
pub mod NamedLines
mod Picked
