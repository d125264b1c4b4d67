pub mod OuterScopeLaw
pub mod DefinedLaw
pub mod OperandLaw
pub mod PlaceBoundLaw
pub mod Theorems
