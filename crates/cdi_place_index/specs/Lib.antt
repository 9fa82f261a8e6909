pub mod PlaceIndex
pub mod PlaceRows
pub mod Sets
