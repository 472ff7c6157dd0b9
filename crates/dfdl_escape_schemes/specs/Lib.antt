pub mod Schemes
pub mod Shown
