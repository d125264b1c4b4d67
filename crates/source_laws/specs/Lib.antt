pub mod Listed
pub mod Pieces
pub mod ListedValues
