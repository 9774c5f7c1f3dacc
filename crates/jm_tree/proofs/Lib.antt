pub mod Joins
pub mod Sets
pub mod Literals
pub mod Chains
