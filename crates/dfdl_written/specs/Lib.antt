pub mod Prefixes
pub mod Variables
pub mod Noting
