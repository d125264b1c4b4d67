pub mod BooleanLaw
