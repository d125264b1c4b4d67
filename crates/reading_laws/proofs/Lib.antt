pub mod DepthLaw
pub mod TallyLaw
pub mod OpsLaw
pub mod CountLaw
pub mod HeldLaw
pub mod ElementsLaw
