pub mod Written
pub mod Forms
pub mod Own
pub mod Formats
pub mod Shown
