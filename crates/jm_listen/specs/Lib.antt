pub mod Turns
pub mod Sessions
pub mod Runs
pub mod Faults
