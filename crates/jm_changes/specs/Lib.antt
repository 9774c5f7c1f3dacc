pub mod Standing
pub mod Planned
pub mod Subscriptions
pub mod Sending
