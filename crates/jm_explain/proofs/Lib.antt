-- Lemmas of this crate.
mod Holding
mod Requests
mod Stamps
