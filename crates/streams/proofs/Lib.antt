pub mod CutLaw
pub mod TookLaw
