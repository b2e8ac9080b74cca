pub mod LiteralLemmas
pub mod LineLemmas
pub mod FormLemmas
pub mod OneForm
pub mod PrintLemmas
pub mod ReadBack
pub mod LineByteLemmas
