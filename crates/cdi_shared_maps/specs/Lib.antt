pub mod Maps
pub mod Pages
