pub mod Large
pub mod Setups
