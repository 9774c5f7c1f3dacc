pub mod Columns
pub mod Steps
pub mod Records
pub mod Own
pub mod Faults
