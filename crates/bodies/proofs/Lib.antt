pub mod BodiesLaw
pub mod Examples
