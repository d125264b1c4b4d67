pub mod ScanLaw
pub mod Examples
