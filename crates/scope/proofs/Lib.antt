pub mod ScopeLaw
pub mod Examples
