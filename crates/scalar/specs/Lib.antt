pub mod Ops
pub mod Body
