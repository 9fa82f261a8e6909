pub mod Growth
pub mod Puts
pub mod HiddenChanges
pub mod Maps
