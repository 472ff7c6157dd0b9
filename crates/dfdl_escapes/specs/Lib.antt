pub mod Steps
pub mod Readings
pub mod Contents
pub mod Written
pub mod Sought
pub mod Runs
pub mod Reads
pub mod Trims
