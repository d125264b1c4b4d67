pub mod RefusedLaw
pub mod TreesLaw
