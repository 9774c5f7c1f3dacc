pub mod Grouped
pub mod Order
