pub mod Sums
pub mod Numbers
pub mod Shifts
pub mod Reading
pub mod Patches
pub mod Putting
pub mod Whole
pub mod Windows
pub mod Loads
pub mod Words
pub mod Stores
mod ByteSets
