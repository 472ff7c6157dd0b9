pub mod Within
pub mod Numbering
mod Deriving
mod Finding
mod Digits
mod Naming
mod GroupsNamed
mod Stated
