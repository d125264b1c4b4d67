pub mod StartsLaw
pub mod ClaimLaw
pub mod ZeroDivisorLaw
