pub mod Dims
pub mod Index
pub mod Place
pub mod Whole
