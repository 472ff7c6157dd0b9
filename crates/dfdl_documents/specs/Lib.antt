pub mod Locations
pub mod Documents
pub mod References
pub mod Loading
pub mod Faults
pub mod Told
pub mod Names
pub mod Shown
