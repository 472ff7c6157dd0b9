pub mod Pieces
pub mod Lying
pub mod Whole
pub mod Steps
pub mod ReadBack
