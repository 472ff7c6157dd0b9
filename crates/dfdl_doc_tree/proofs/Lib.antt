pub mod Words
pub mod NameLetters
pub mod Begins
pub mod TagNames
pub mod Ends
pub mod Sizes
pub mod Refused
mod Passes
mod AsciiRuns
mod RunsRead
mod NameBytes
