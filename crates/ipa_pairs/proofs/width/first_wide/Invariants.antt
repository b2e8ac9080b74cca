use Rattle.ipa_pairs.specs.Width.{IsNarrow}
use Rattle.ipa_pairs.proofs.OrderLemmas.{IsBelow}
use Rattle.ipa_pairs.proofs.width.first_wide.Given as goal

-- nothing is too wide with the left actions so far
abbrev pub invariant-loop-place : goal.invariant-loop-place
invariant-loop-place l = IsNarrow l.spec (IsBelow l.spec l.place)
