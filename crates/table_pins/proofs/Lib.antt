pub mod ColumnPins
pub mod AttributeKindPins
pub mod PastLaw
