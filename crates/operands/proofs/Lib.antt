pub mod OperandsLaw
