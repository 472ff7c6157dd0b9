pub mod Back
pub mod Powers
pub mod Scaled
