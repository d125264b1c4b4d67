pub mod BodiesLaw
