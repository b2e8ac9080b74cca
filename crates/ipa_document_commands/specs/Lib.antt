pub mod Checks
pub mod Repairs
