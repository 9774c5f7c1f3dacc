pub mod Items
pub mod SlotList
pub mod Lends
pub mod Marks
