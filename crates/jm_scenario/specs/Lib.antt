pub mod Lines
pub mod Faults
pub mod Items
pub mod Calls
pub mod Outer
pub mod Key
