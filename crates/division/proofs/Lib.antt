pub mod Dispatch
pub mod Quotient
