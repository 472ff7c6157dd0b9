pub mod Lists
pub mod Routes
pub mod Settling
pub mod Literals
pub mod Calls
pub mod Compiling
pub mod Running
pub mod Resolving
