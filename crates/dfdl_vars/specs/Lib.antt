pub mod Instances
pub mod Kept
pub mod Marks
pub mod VarsShown
