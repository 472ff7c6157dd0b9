mod Backs
mod Gone
mod Placed
mod Rooms
mod Sound
pub mod Ways
