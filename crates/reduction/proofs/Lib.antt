pub mod CollectLaw
pub mod RowLaw
pub mod SliceLaw
