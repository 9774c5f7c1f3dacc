mod Indexed
mod Changed
mod Counts
mod Found
mod Counted
mod Opened
mod Closed
