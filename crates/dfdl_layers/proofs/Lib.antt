pub mod Refusals
pub mod Runs
pub mod Told
pub mod AllowedTold
pub mod BytesRun
pub mod BytesTold
