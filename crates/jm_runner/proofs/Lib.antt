pub mod Told
pub mod Loaded
pub mod Forked
