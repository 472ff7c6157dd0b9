pub mod Forms
pub mod AskingSeparators
pub mod AskingPieces
pub mod AskingCells
pub mod Written
pub mod AskingBits
pub mod Filling
