pub mod Selectors
pub mod Literals
