pub mod Parts
pub mod Folds
pub mod Cycles
pub mod UsesShown
pub mod Filling
pub mod Reaching
