pub mod Locked
pub mod Told
pub mod Sends
pub mod Listening
