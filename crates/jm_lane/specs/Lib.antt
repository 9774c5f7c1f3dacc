pub mod Rows
pub mod Lanes
pub mod Holders
pub mod Chosen
pub mod Cursors
