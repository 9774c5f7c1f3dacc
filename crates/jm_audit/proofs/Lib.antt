pub mod Auditing
pub mod Audited
