use Rattle.ipa_history.specs.Histories.{IsMember}
use Rattle.ipa_gate.specs.Fronts.{UpTo}
use Rattle.ipa_gate.proofs.pulls.first_parted.Given as goal

abbrev pub invariant-loop-tx : goal.invariant-loop-tx
invariant-loop-tx l = UpTo (IsMember l.index.entries) l.tx-items l.tx-index
