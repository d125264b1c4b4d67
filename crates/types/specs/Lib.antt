pub mod Numbers
pub mod Tensors
