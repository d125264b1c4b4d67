pub mod HeldLaw
