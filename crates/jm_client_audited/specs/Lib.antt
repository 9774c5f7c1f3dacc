pub mod Callers
pub mod Audits
