pub mod ByteLaw
pub mod TypeLaw
pub mod EndLaw
