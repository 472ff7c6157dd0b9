pub mod Courses
pub mod Groups
pub mod Runs
pub mod Verdicts
