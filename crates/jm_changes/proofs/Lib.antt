pub mod First
pub mod Losing
pub mod Walk
pub mod Placed
pub mod Gone
pub mod Come
pub mod Listed
