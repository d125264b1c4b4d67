pub mod Examples
pub mod NaturalLaw
pub mod OpLaw
pub mod ProgramLaw
