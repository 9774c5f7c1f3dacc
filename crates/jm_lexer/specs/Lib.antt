pub mod Faults
pub mod Words
pub mod Lex
pub mod Lexes
