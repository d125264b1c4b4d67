pub mod AttributesLaw
pub mod Examples
pub mod KindLaw
