use Rattle.ipa_pairs.specs.Width.{IsNarrow}
use Rattle.ipa_pairs.proofs.OrderLemmas.{IsOfLeftBelow}
use Rattle.ipa_pairs.proofs.width.first_wide_of_left.Given as goal

-- nothing is too wide with the right actions so far
abbrev pub invariant-loop-place : goal.invariant-loop-place
invariant-loop-place l = IsNarrow l.spec (IsOfLeftBelow l.spec l.left l.place)
