pub mod SameLaw
pub mod OwnLaw
pub mod LikeLaw
pub mod OrderLaw
pub mod FreshLaw
pub mod TextLaw
mod Examples
