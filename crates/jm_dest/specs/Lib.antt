pub mod Names
pub mod Keys
pub mod Numbers
