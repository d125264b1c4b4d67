pub mod BytePins
pub mod TokenPins
pub mod DensePins
pub mod PrintPins
pub mod NamePins
