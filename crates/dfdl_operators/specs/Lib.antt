pub mod Comparisons
pub mod Constructors
pub mod Faults
pub mod NumberShown
pub mod Numbers
pub mod Operators
pub mod Places
pub mod TextFunctions
