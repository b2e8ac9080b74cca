pub mod LeapLemmas
pub mod MatchLemmas
