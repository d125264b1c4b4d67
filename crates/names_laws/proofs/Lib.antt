pub mod ApartLaw
pub mod RefusalLaw
