use Rattle.ipa_audit.proofs.FinalLemmas.{AreLeft}
use Rattle.ipa_audit.proofs.finals.are_in.Given as goal

abbrev pub invariant-loop-fact : goal.invariant-loop-fact
invariant-loop-fact g l = AreLeft l.predicate (g.V.View.facts l.view) l.state l.fact-iterator
