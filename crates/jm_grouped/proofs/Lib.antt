pub mod Lists
pub mod Orders
pub mod Taken
pub mod Groups
pub mod Closed
pub mod Changed
