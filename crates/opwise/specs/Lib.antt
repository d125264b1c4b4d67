pub mod Opwise
