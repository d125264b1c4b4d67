pub mod AttributeRules
pub mod DefinedValues
pub mod BodyForm
pub mod Reasons
pub mod ConstraintRules
pub mod Verdict
