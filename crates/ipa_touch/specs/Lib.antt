pub mod Turns
pub mod Searches
pub mod Decided
pub mod Leaps
