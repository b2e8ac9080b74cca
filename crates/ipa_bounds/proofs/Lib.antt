pub mod GroupLemmas
pub mod ChoiceLemmas
pub mod PickLemmas
pub mod BoundLemmas
pub mod RunLemmas
pub mod MemberLemmas
