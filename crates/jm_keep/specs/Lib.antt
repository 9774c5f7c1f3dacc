pub mod Stored
pub mod Persisted
pub mod Leads
pub mod Steps
pub mod Calls
pub mod Apart
