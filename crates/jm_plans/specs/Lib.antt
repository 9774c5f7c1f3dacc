pub mod Kept
pub mod Named
pub mod Plans
pub mod Provider
pub mod Publications
pub mod Steps
