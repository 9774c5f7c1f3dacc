mod Seats
pub mod Sends
