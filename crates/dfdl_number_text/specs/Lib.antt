pub mod Body
pub mod Digits
pub mod ReadShown
pub mod NumberReading
pub mod Rounding
pub mod Writing
pub mod Written
