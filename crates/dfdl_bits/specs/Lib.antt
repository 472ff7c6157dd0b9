pub mod Bits
pub mod Window
pub mod Words
pub mod ByteSets
