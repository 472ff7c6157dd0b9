pub mod Padding
pub mod Truths
