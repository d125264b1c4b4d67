pub mod Elementwise
