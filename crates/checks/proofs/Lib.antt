pub mod CheckLaw
pub mod MeaningLaw
pub mod ReadingLaw
pub mod AxesLaw
pub mod NumberLaw
pub mod TypeLaw
