pub mod ConstraintLaw
