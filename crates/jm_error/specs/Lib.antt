pub mod Refused
pub mod Faults
