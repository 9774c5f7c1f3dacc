pub mod Both
pub mod Consumed
pub mod Faults
pub mod Limits
pub mod Marked
pub mod Written
