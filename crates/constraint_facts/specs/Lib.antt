pub mod OpFacts
