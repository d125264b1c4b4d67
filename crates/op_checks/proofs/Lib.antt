pub mod PieceLaw
pub mod Examples
