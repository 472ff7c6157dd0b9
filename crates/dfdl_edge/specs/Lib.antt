pub mod Faults
pub mod Told
pub mod Source
pub mod Sink
pub mod Files
pub mod Patterns
pub mod Memory
pub mod Whole
