use Rattle.ipa_bounds.proofs.BoundLemmas.{WithinBelow}
use Rattle.ipa_bounds.proofs.drops.first_over_in.Given as goal

abbrev pub invariant-loop-number : goal.invariant-loop-number
invariant-loop-number g l = WithinBelow l.spec.bounds (g.V.View.facts l.view) l.number
