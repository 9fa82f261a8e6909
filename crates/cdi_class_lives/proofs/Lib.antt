mod Added
mod Keeping
mod Kept
