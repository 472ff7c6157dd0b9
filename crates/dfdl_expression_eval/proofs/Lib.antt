mod Asking
mod Beginnings
mod Courses
pub mod Gathering
mod Larger
mod Leftovers
mod Nexts
mod Parts
mod Resumed
mod Steady
mod Nested
