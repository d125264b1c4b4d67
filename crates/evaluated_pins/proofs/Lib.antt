pub mod EvaluatedLaw
