use Rattle.ipa_pairs.specs.Width.{IsNarrow}
use Rattle.ipa_pairs.proofs.OrderLemmas.{IsOfPairBelow}
use Rattle.ipa_pairs.proofs.width.first_wide_of_pair.Given as goal

-- nothing is too wide on the clauses so far
abbrev pub invariant-loop-number : goal.invariant-loop-number
invariant-loop-number l = IsNarrow l.spec (IsOfPairBelow l.left l.right l.number)
