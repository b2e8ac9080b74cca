use Rattle.ipa_ground.proofs.CountLemmas.{CountsBelow}
use Rattle.ipa_ground.proofs.patterns.Patterns.count.Given as goal

abbrev pub invariant-loop-sort : goal.invariant-loop-sort
invariant-loop-sort l = CountsBelow l.constants l.sorts l.sort l.count
