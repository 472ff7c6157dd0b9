mod Adding
mod Pieces
mod Encoded
mod Completing
mod Ahead
mod Living
mod Fills
mod Never
mod Held
mod Begins
mod Selected
mod Going
pub mod Deciders
mod Tellings
mod Kept
mod Plain
