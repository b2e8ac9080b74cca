use Rattle.std.proofs.Common.{◌≡◌, ◌<◌, ℕ, true, Some, slice_get}
use Rattle.ipa_spec.specs.Actions.{needs_of}
use Rattle.ipa_spec.specs.declared.clauses.Literal.{Literal}
use Rattle.ipa_logic.specs.Facts.{has}
use Rattle.ipa_logic.specs.Truth.{literal_true}
use Rattle.ipa_logic.proofs.needs.first_failing_need.Given as goal

-- the needs so far hold
abbrev pub invariant-loop-number : goal.invariant-loop-number
invariant-loop-number g l = (k : ℕ) (need : Literal) → k < l.number → slice_get (needs_of l.fn.spec l.fn.action) k ≡ Some need →
    literal_true l.fn.spec (has (g.V.View.facts l.fn.view)) l.fn.args need ≡ true
