pub mod Facts
pub mod Constraint
