pub mod ConstantLaw
