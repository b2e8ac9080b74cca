use Rattle.ipa_overfill.proofs.OverfillLemmas.{AreSparedBelow}
use Rattle.ipa_overfill.proofs.overfilled.first_overfilled.Given as goal

abbrev pub invariant-loop-number : goal.invariant-loop-number
invariant-loop-number g l = AreSparedBelow l.spec l.action l.args (g.V.View.facts l.view) l.number
