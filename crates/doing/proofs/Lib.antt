pub mod DoingLaw
