pub mod ExampleLaw
pub mod OrderLaw
pub mod RunLaw
pub mod TableLaw
pub mod TextLaw
pub mod TreeLaw
pub mod WaysLaw
