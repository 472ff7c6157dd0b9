pub mod Tallies
pub mod Looks
pub mod Asks
