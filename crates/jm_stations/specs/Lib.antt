pub mod Backlogs
pub mod Kept
pub mod Standing
pub mod Stations
pub mod Loading
pub mod Outstanding
