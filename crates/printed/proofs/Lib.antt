pub mod Examples
pub mod LengthLaw
pub mod PrintLaw
