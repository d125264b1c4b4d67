pub mod DecimalLaw
pub mod LineLaw
pub mod WholeLaw
