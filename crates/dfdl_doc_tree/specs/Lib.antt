pub mod Shown
pub mod ScannerShown
pub mod ReaderShown
pub mod Faults
pub mod Plain
