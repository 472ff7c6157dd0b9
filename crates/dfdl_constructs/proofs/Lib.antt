pub mod Colons
pub mod Walking
pub mod Names
pub mod Numbers
