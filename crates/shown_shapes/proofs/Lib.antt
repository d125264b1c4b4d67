pub mod FitLaw
