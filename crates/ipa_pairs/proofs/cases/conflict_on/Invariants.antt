use Rattle.std.proofs.Common.{◌≡◌, ℕ, ◌<◌, Some, slice_get}
use Rattle.ipa_spec.specs.declared.clauses.Literal.{Literal}
use Rattle.ipa_pairs.specs.Openness.{HasNoStates}
use Rattle.ipa_pairs.proofs.cases.conflict_on.Given as goal

-- the literals before this one cannot be lost
abbrev pub invariant-loop-place : goal.invariant-loop-place
invariant-loop-place l = (k : ℕ) (m : Literal) → k < l.place → slice_get l.clause.literals k ≡ Some m → HasNoStates l.spec l.case m
