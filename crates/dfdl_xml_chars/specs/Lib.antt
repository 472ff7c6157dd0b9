pub mod Utf8
pub mod Characters
pub mod Beyond
pub mod Shown
pub mod DocumentReading
