pub mod Tokens
pub mod Syntax
pub mod Machine
pub mod Limit
pub mod Counting
pub mod Expressions
pub mod Shown
