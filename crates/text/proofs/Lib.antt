pub mod NameLaw
pub mod TokenLaw
pub mod LongestLaw
pub mod Examples
