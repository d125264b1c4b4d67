pub mod OpChecks
