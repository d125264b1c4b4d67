pub mod Roles
pub mod Tally
pub mod Sizes
pub mod Refusals
pub mod Judge
