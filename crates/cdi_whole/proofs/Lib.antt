pub mod Safe
mod Statements
mod References
mod Invocations
mod Creation
mod Bodies
mod Acts
mod Destruction
mod Events
pub mod Tasks
pub mod Commands
pub mod Presence
mod Worked
pub mod Contexts
pub mod Whole
pub mod Remains
pub mod Busy
pub mod Terms
pub mod Moves
pub mod Passing
pub mod Shifts
pub mod Changes
pub mod Quiet
pub mod OfProducts
pub mod Replied
pub mod Counts
mod Without
mod Calm
mod Idle
mod Proceeding
mod Resting
mod AtMark
mod AtMost
mod BornOnce
mod Counted
pub mod Beginning
pub mod WorkedFarewells
