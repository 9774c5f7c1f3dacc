pub mod Asking
pub mod Keys
pub mod Standing
pub mod Stored
pub mod Values
