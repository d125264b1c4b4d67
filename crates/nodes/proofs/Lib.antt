pub mod ReadLaw
pub mod TypedLaw
pub mod NodesLaw
pub mod VerdictLaw
pub mod AcceptedLaw
pub mod Examples
pub mod TextExample
