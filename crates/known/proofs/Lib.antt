pub mod KnownLaw
