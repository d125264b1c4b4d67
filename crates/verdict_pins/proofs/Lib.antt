pub mod Pin
pub mod NamesLaw
pub mod InsideLaw
