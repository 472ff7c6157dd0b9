pub mod Runs
pub mod Readers
