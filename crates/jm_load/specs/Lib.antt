pub mod Causes
pub mod Loaded
pub mod Faults
