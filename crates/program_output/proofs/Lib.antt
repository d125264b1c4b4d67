pub mod OutputLaw
