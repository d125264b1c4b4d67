pub mod Dense
pub mod Filled
