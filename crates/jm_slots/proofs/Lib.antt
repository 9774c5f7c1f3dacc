pub mod Rising
pub mod Items
pub mod Counts
pub mod Marked
