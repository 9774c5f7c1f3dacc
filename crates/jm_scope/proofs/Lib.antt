mod Seen
mod Found
