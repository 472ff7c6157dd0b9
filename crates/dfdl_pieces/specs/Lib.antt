pub mod Laying
pub mod Pieces
pub mod Unparsing
pub mod Whole
