pub mod Faults
pub mod Scope
pub mod Scoped
