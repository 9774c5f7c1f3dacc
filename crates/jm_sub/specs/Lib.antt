pub mod Subscriptions
pub mod Sharing
pub mod Entries
pub mod Channels
pub mod Places
