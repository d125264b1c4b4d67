pub mod Columns
pub mod AttributeKinds
