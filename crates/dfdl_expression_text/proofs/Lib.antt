mod Comes
mod Drives
mod Texts
mod Steps
mod Lives
mod High
mod Runs
pub mod Could
pub mod Owed
mod Rises
mod Least
mod Whole
