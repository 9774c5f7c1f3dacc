pub mod Identifiers
pub mod Conversions
pub mod Properties
pub mod Same
pub mod Order
