pub mod TestsLaw
pub mod TypedSameLaw
pub mod ReturnSameLaw
pub mod NamesSameLaw
pub mod JoinLaw
pub mod ChecksSameLaw
pub mod VerdictLaw
