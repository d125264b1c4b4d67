pub mod BodyValueLaw
pub mod HeadLaw
pub mod ArgumentLaw
pub mod GatherLaw
pub mod AcceptedBodyLaw
pub mod Examples
