pub mod Loop
pub mod MessageLaws
