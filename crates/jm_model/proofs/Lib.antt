pub mod Records
pub mod Asked
pub mod Nested
pub mod Fed
pub mod Placing
