pub mod Examples
pub mod InputsLaw
