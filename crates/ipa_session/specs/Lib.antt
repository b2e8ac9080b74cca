pub mod Sessions
pub mod Calms
pub mod Holding
