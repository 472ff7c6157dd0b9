pub mod Decoding
pub mod Encodings
pub mod Looks
pub mod Runs
pub mod Sequences
pub mod Sights
