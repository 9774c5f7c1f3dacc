mod Soonest
mod Receiving
mod Shown
pub mod Counting
mod Taking
mod Number
