pub mod Bits
pub mod Below
pub mod Children
pub mod Follows
pub mod Inside
pub mod Walked
pub mod Occurrences
mod Texts
