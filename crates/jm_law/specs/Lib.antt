pub mod OneConsumer
pub mod Subscriptions
pub mod Runs
