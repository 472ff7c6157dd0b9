pub mod References
pub mod Writers
pub mod Agreeing
pub mod Schemes
