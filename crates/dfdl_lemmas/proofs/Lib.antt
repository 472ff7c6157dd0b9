pub mod Bools
pub mod Lists
pub mod Powers
pub mod TrimmedLists
