pub mod OpwiseLaw
pub mod HandedLaw
