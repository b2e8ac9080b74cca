use Rattle.ipa_ground.proofs.PlaceLemmas.{StartsBelow}
use Rattle.ipa_ground.proofs.numbering.starts.Given as goal

abbrev pub invariant-loop-number : goal.invariant-loop-number
invariant-loop-number l = StartsBelow l.starts l.predicate-items l.universe.sizes l.number
