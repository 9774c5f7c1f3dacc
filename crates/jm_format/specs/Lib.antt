pub mod Limits
pub mod Format
pub mod Messages
pub mod Reading
