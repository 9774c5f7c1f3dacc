pub mod Turns
pub mod Single
pub mod Levels
pub mod Chains
pub mod Primaries
pub mod Tails
