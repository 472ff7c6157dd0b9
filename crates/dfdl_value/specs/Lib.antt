pub mod Numbers
pub mod ReadValues
pub mod Texts
pub mod Types
pub mod WholeShown
pub mod Writing
