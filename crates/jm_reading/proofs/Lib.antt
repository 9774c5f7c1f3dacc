pub mod Codec
pub mod FieldLaws
pub mod PartLaws
pub mod Tables
pub mod PropertyLaws
