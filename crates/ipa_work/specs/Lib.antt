pub mod Tournament
pub mod Workloads
