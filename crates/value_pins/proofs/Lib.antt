pub mod TypePins
pub mod ScalarPins
pub mod ShapePins
