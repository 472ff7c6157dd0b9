pub mod Texts
mod Kept
mod Opened
mod Lists
mod Parts
mod Put
mod Expanded
mod Bound
mod Split
mod Settled
mod Repeated
mod Rules
mod Written
