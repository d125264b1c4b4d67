pub mod Ascii
pub mod Bytes
pub mod TypeText
pub mod Quantized
pub mod TensorText
