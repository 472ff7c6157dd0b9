pub mod Contents
pub mod Rooms
