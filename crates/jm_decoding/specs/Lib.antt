pub mod Faults
pub mod Kinds
pub mod Readable
pub mod Decoded
pub mod Tables
pub mod Asked
