pub mod Parents
pub mod Single
pub mod Stored
pub mod Valid
pub mod Changed
