pub mod Turns
pub mod Values
pub mod Contents
pub mod Lexing
pub mod Quotes
pub mod Best
pub mod Lexed
