pub mod Deliveries
pub mod Pours
pub mod Counting
pub mod Laws
