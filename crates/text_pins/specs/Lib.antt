pub mod Bytes
pub mod Tokens
pub mod DenseValues
pub mod Prints
pub mod NameBytes
