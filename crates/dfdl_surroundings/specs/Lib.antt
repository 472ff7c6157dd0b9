pub mod Around
pub mod Answers
pub mod Steady
pub mod Taking
pub mod Fits
