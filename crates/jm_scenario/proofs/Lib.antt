pub mod Described
pub mod Keys
pub mod Loops
pub mod Operations
pub mod Outlined
pub mod Places
pub mod Recorded
pub mod Texts
