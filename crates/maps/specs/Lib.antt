pub mod Concatenation
pub mod Examples
pub mod Formulas
pub mod Holds
pub mod Kinds
