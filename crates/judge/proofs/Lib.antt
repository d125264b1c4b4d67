pub mod NameLaw
pub mod RefusedLaw
pub mod RoleLaw
pub mod TallyLaw
pub mod TurnLaw
pub mod Theorems
pub mod Examples
