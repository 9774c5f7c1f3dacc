pub mod Closing
pub mod Listening
pub mod Named
pub mod Publications
pub mod Reopening
pub mod State
pub mod Stored
pub mod Takings
