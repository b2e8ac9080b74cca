pub mod Runs
pub mod RunVerdicts
