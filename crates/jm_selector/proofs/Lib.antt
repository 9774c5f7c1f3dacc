pub mod Selectors
pub mod Asked
