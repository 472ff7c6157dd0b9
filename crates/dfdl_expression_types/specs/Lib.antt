pub mod TypeSets
pub mod Words
pub mod Declarations
pub mod Callees
pub mod Paths
pub mod Notes
pub mod Running
pub mod Verdicts
