pub mod formers
pub mod Shown
