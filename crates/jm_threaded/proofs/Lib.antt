pub mod Made
pub mod Played
pub mod Seated
