pub mod Runs
pub mod Audits
pub mod Threaded
