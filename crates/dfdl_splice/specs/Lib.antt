pub mod Bits
pub mod Splicing
pub mod Copying
pub mod Entries
pub mod Tables
