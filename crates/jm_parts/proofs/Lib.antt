pub mod Accepted
pub mod Kept
mod Left
pub mod Naming
pub mod NextRows
pub mod Publishing
pub mod Reopening
pub mod Stations
