-- Lemmas of this crate.
mod Explained
