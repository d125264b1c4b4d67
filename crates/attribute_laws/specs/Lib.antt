pub mod ValueForms
pub mod AttributesRead
