pub mod Causes
pub mod Tellers
pub mod Allowed
pub mod Bytes
