pub mod Passed
pub mod Answered
pub mod Begins
