pub mod Listed
pub mod Lends
