pub mod FailingLaw
pub mod ReasonLaw
pub mod Examples
