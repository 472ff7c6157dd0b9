pub mod Scoping
pub mod Expressions
pub mod Table
pub mod Shown
pub mod TableShown
pub mod Told
pub mod Names
