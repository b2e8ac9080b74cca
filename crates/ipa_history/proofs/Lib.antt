pub mod ClosedLemmas
pub mod StateLemmas
pub mod DropLemmas
pub mod ReasonLemmas
mod ShownLemmas
