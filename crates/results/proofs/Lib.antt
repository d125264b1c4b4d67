pub mod Examples
pub mod ResultsLaw
