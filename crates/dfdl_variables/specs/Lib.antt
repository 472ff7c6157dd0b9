pub mod Types
pub mod Defaults
pub mod Variables
pub mod Numbers
pub mod Ordered
