mod Steps
mod Calls
