pub mod Seat
pub mod Seats
pub mod Desks
pub mod Faults
