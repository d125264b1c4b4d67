pub mod BridgeLaw
pub mod AlikeLaw
pub mod ReadyLaw
pub mod HoldsLaw
pub mod NodeLaw
pub mod OtherLaw
pub mod AcceptedLaw
pub mod OutcomeLaw
