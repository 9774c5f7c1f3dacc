mod Answered
mod Opened
