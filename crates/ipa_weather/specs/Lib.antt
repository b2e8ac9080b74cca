pub mod Forecasts
pub mod Arrivals
pub mod Kinds
