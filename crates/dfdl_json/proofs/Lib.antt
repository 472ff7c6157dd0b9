mod Answered
pub mod Below
mod Contents
pub mod Declares
mod ElementNames
mod Fitted
mod Inner
mod JsonParts
mod NamesSoFar
mod Nodes
mod Notes
mod Passing
mod Firsts
mod Linked
mod Puts
mod Ranking
mod Collected
mod Runs
mod SoFar
mod Placing
mod Document
pub mod RowValues
mod TextReading
mod Typed
mod Turned
mod Whole
mod Writes
