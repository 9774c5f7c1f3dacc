pub mod Rows
pub mod Receivers
pub mod Counts
pub mod Placed
pub mod Chosen
