pub mod DimensionLaw
pub mod ElementLaw
pub mod Examples
pub mod IndexLaw
pub mod WholeLaw
pub mod PlaceLaw
pub mod WithinLaw
