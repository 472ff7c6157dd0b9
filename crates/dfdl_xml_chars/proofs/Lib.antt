pub mod Pairs
pub mod Sees
pub mod Encodes
pub mod Coding
pub mod Ranges
pub mod Tables
pub mod Foresight
pub mod Documents
