pub mod Evaluated
pub mod Order
pub mod State
