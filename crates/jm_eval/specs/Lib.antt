pub mod Patterns
pub mod Values
pub mod Seen
pub mod Same
pub mod Views
pub mod Evaluation
pub mod Laws
