pub mod Example
pub mod Run
pub mod Tree
pub mod Ways
