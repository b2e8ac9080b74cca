mod AbsorbLemmas
mod CutLemmas
mod CalmLemmas
mod DueLemmas
mod HoldingLemmas
mod DecisionLemmas
