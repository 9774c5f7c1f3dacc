pub mod Ran
pub mod Same
