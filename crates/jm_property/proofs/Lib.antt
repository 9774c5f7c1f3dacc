pub mod Parsing
pub mod Tables
pub mod Orders
