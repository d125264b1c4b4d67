pub mod ValuePin
pub mod Types
pub mod Scalars
pub mod Shapes
