mod SameLiteral
mod Changed
mod Shared
mod Ended
mod Listed
mod Topics
mod Places
mod Heard
pub mod AcceptingPlaces
