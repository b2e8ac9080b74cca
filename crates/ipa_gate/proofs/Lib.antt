pub mod WalkLemmas
pub mod ShapeLemmas
pub mod CutLemmas
pub mod CalmLemmas
pub mod DropLemmas
pub mod VerdictLemmas
pub mod AgreementLemmas
pub mod NewsLemmas
