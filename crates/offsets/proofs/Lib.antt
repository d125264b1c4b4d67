pub mod OffsetsLaw
