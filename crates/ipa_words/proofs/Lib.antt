pub mod Words
pub mod OneCommand
