pub mod Settled
pub mod Keeps
mod Takes
