pub mod ValuesLaw
