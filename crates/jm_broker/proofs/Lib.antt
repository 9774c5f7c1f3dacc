pub mod Pushed
pub mod Waits
pub mod Verdicts
pub mod Refused
pub mod Ends
