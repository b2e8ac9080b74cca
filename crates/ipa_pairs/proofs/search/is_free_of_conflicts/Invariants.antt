use Rattle.std.proofs.Common.{ℕ, ◌<◌}
use Rattle.ipa_logic.specs.Conflicts.{Conflict}
use Rattle.ipa_pairs.specs.Grounded.{AreOf}
use Rattle.ipa_pairs.proofs.search.is_free_of_conflicts.Given as goal

-- the two conflict on none of the clauses so far
abbrev pub invariant-loop-number : goal.invariant-loop-number
invariant-loop-number l = ((k : ℕ) → k < l.number → Conflict l.spec l.left l.right k → ⊥) × AreOf l.spec l.grounded
