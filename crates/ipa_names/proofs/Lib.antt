pub mod ScopeFacts
pub mod PartsFaultless
pub mod Faultless
pub mod RepeatLemmas
pub mod VariableLemmas
