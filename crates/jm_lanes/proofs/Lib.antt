pub mod Places
pub mod Edited
pub mod Found
pub mod Keeping
mod Order
pub mod Pushing
pub mod Making
pub mod Holding
pub mod Ranks
pub mod Soonest
mod Shown
pub mod Home
pub mod From
mod Spots
mod Lowest
mod Written
mod Within
mod Number
