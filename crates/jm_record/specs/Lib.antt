pub mod Damage
pub mod Faults
pub mod Heads
pub mod Laws
