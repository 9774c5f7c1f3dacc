pub mod Reading
pub mod Fields
pub mod Values
pub mod Misfits
pub mod Drafts
