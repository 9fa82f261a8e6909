pub mod Ledger
pub mod Stories
pub mod Ends
pub mod Callbacks
pub mod BodyReferences
pub mod Whose
