pub mod Views
pub mod Readings
pub mod Strings
pub mod Nils
pub mod Patterned
