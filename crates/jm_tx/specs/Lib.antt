pub mod Buffers
pub mod Halves
