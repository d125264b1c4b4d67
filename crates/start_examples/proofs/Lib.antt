pub mod IdentityTest
pub mod Computing
pub mod SignedLaw
