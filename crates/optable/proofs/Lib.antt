pub mod TableLaw
pub mod SameLaw
pub mod ScanLaw
pub mod NameLaw
pub mod ByNamesLaw
pub mod Examples
