pub mod UnsignedLaw
