use Rattle.std.proofs.Common.{◌≡◌, ℕ, ◌<◌, Some, false, length}
use Rattle.std.specs.Prelude.{slice_index_or}
use Rattle.std.specs.List.{slice_get}
use Rattle.ipa_spec.specs.declared.clauses.Clause.{Clause}
use Rattle.ipa_logic.specs.Conflicts.{can_break}
use Rattle.ipa_pairs.proofs.breaking.breakable_clauses.Given as goal

-- it is told of the clauses so far
abbrev pub invariant-loop-place : goal.invariant-loop-place
invariant-loop-place l = (length l.breakable ≡ 32) × ((k : ℕ) (c : Clause) → k < l.place → slice_get l.spec.clauses k ≡ Some c → slice_index_or l.breakable k false ≡ can_break l.spec l.action c)
