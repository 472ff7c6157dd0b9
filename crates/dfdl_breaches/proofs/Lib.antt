mod Joining
mod Keeping
pub mod Numbering
mod Ordered
mod Roots
pub mod Searches
mod Tables
mod NamedSchemes
mod PrefixTypes
pub mod Building
mod Forms
pub mod Refusals
mod Judged
mod Standings
mod HiddenKinds
mod BuiltTests
mod Stated
mod Calculating
