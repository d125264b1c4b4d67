pub mod OpAttributes
pub mod Ops
pub mod Typed
