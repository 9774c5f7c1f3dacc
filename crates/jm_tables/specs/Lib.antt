pub mod Made
pub mod Schema
pub mod Keys
pub mod Rows
pub mod Sound
pub mod Valid
