pub mod Documents
pub mod Fronts
pub mod Scripts
pub mod Splices
pub mod Unparsers
