pub mod Names
pub mod Table
pub mod Find
pub mod Takes
