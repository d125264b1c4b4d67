pub mod Names
pub mod InOrder
