mod Sends
mod Reached
mod Within
mod Outstanding
mod Taken
pub mod ReadKeys
