pub mod Affix
pub mod Digits
pub mod Pattern
pub mod Machine
pub mod Taken
pub mod ReaderShown
pub mod Read
pub mod Fault
