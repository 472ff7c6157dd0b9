pub mod Integers
pub mod Signed
pub mod Truths
