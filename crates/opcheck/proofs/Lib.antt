pub mod GrantedLaw
