use Rattle.ipa_overfill.proofs.OverfillLemmas.{NoneBelow}
use Rattle.ipa_overfill.proofs.overfilled.some_overfills.Given as goal

abbrev pub invariant-loop-effect : goal.invariant-loop-effect
invariant-loop-effect g l = NoneBelow l.spec l.args l.bound (g.V.View.facts l.view) l.effects l.effect-index
