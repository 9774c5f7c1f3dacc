pub mod Same
pub mod Digits
