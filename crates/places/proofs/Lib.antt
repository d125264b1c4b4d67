pub mod TypeInLaw
