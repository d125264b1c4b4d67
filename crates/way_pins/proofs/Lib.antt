pub mod WaysLaw
