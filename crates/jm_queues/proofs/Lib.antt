pub mod Found
pub mod Indexed
pub mod QueueCounts
pub mod QueueKeys
pub mod QueueRows
