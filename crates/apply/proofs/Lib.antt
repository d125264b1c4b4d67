pub mod ApplyLaw
