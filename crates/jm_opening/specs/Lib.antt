pub mod Judged
pub mod Meta
pub mod Opened
pub mod Opening
