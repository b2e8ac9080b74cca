pub mod Choices
pub mod Picks
pub mod Runs
pub mod Members
