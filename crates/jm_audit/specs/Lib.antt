pub mod Passes
pub mod Audit
pub mod Marks
