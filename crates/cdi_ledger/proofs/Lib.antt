pub mod Judge
pub mod Phases
mod Past
mod Plain
mod Steps
mod Fronts
pub mod Ledgered
pub mod Owed
mod Fine
mod Standing
mod Doings
mod Tasks
mod Creations
mod Tops
pub mod Settled
pub mod Marks
pub mod Nesting
pub mod Births
pub mod Referred
pub mod Farewells
pub mod Callbacks
pub mod Firsts
pub mod Traces
pub mod Orders
pub mod BodyReferences
pub mod Counts
pub mod Maps
pub mod Lists
pub mod Holdings
pub mod Cores
pub mod Places
pub mod Homes
pub mod Idle
pub mod Changes
pub mod Makings
pub mod Spans
