pub mod Digits
pub mod Packed
pub mod Sizes
pub mod Typed
pub mod Written
pub mod Zoned
