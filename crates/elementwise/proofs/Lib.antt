pub mod DivideLaw
pub mod FillLaw
pub mod HoldsLaw
