mod Gathering
mod Indexing
mod Outward
mod Searching
pub mod Consisting
mod Unrecursive
