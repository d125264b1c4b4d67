pub mod Cut
pub mod Known
