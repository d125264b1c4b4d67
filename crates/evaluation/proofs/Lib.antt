pub mod AnswerLaw
pub mod ClaimExample
pub mod FillLaw
pub mod FittedLaw
pub mod OrderLaw
pub mod RunLaw
pub mod StateLaw
