mod Finding
mod Runs
mod Keys
