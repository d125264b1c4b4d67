pub mod Examples
pub mod LengthLaw
pub mod LiteralLaw
pub mod ReadLaw
pub mod ValueLaw
