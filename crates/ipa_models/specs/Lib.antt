pub mod Models
pub mod Questions
pub mod Listing
pub mod Answers
