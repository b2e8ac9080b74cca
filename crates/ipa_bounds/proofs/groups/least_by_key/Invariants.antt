use Rattle.ipa_bounds.proofs.ChoiceLemmas.{Searched}
use Rattle.ipa_bounds.proofs.groups.least_by_key.Given as goal

abbrev pub invariant-loop-fact : goal.invariant-loop-fact
invariant-loop-fact g l = Searched l.bound (g.V.View.facts l.view) l.best l.fact-iterator
