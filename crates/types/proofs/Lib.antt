pub mod DigitLaw
pub mod ShapeLaw
pub mod NumberLaw
pub mod TypeLaw
pub mod Examples
