pub mod LaidLaw
