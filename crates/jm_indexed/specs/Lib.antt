pub mod Order
pub mod Keys
pub mod Entries
pub mod Lends
pub mod Section
