pub mod Reopening
pub mod Leaving
pub mod Valid
