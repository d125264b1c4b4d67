pub mod BrokenLaw
pub mod FactLaw
