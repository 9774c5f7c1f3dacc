-- Lemmas of this crate.
mod Replies
mod Sending
mod Causes
mod Turns
