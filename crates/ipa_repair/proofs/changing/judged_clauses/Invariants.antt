use Rattle.std.proofs.Common.{◌≡◌, ℕ, ◌<◌, Some, false, length}
use Rattle.std.specs.Prelude.{slice_index_or}
use Rattle.std.specs.List.{slice_get, list_all}
use Rattle.ipa_spec.specs.declared.clauses.Clause.{Clause}
use Rattle.ipa_repair.specs.Unchanged.{same_judgement}
use Rattle.ipa_repair.proofs.changing.judged_clauses.Given as goal

abbrev pub invariant-loop-place : goal.invariant-loop-place
invariant-loop-place l = (length l.judged ≡ 32) × ((k : ℕ) (c : Clause) → k < l.place → slice_get l.spec.clauses k ≡ Some c → slice_index_or l.judged k false ≡ list_all (same_judgement l.spec l.next) c.literals)
