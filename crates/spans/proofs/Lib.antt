pub mod SpansLaw
