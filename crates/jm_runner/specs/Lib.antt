pub mod Select
pub mod Lone
pub mod Perform
pub mod Program
pub mod Stored
pub mod Threaded
