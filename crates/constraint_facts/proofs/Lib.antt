pub mod WordLaw
pub mod CeilLaw
pub mod TypeFactLaw
pub mod AxisFactLaw
pub mod SliceFactLaw
pub mod ReduceFactLaw
pub mod JoinFactLaw
