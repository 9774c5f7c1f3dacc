pub mod Places
pub mod Ran
pub mod Senders
pub mod Sends
pub mod Steps
