pub mod Laying
pub mod Slots
pub mod Acting
pub mod Running
pub mod Good
