pub mod Valid
pub mod Headers
pub mod MessageIds
