pub mod AllLaw
pub mod BehindLaw
pub mod SearchLaw
pub mod TabLaw
pub mod TestLaw
