use Rattle.ipa_history.proofs.DropLemmas.{NoneUpTo}
use Rattle.ipa_history.proofs.drops.first_over_among.Given as goal

abbrev pub invariant-loop-number : goal.invariant-loop-number
invariant-loop-number l = NoneUpTo l.bound-items l.facts l.number
