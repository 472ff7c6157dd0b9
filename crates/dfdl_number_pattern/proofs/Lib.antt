pub mod Affixes
pub mod DigitLaws
pub mod Room
pub mod ReaderLaws
pub mod Runs
pub mod Few
pub mod Texts
pub mod Spelled
