pub mod Count
pub mod Whole
pub mod Dims
pub mod Types
