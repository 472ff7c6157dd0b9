pub mod Numbers
pub mod Runs
pub mod Slots
pub mod Entries
pub mod Packs
pub mod Tables
pub mod Filling
pub mod Leads
