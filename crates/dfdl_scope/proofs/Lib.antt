pub mod ByLength
pub mod Maps
