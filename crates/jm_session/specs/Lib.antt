pub mod Clients
pub mod Known
pub mod Numbers
pub mod Opened
pub mod Sends
pub mod Sources
