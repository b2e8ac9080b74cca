pub mod Bytes
pub mod Words
pub mod Tokens
pub mod Fronts
pub mod Lines
pub mod Spellings
