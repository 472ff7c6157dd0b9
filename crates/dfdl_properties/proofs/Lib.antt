pub mod Steps
pub mod Table
pub mod White
pub mod With
