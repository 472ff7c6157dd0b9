mod Agreement
pub mod Found
mod Stepping
mod There
