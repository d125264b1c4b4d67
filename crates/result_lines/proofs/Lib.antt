pub mod ResultLaw
