pub mod Rising
mod Sieve
pub mod Rolling
pub mod Steps
mod Turns
mod Dues
mod Letting
pub mod Holding
pub mod Ranks
pub mod Soonest
mod Standing
pub mod Home
pub mod From
pub mod Choice
mod Spots
pub mod Lowest
mod Releasing
