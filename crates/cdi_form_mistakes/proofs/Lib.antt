pub mod Mapped
pub mod FormPlaces
pub mod NamesFound
pub mod NumbersFound
pub mod Counts
