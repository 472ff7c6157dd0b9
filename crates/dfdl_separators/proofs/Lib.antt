mod Answered
mod Opened
mod Runs
mod Settled
