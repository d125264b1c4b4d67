pub mod CountLaw
pub mod WholeLaw
pub mod ReadLaw
