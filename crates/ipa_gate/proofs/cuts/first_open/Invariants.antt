use Rattle.ipa_history.specs.Closings.{IsBelowIfCovered}
use Rattle.ipa_gate.specs.Fronts.{UpTo}
use Rattle.ipa_gate.proofs.cuts.first_open.Given as goal

abbrev pub invariant-loop-tx : goal.invariant-loop-tx
invariant-loop-tx l = UpTo (IsBelowIfCovered l.cut) l.tx-items l.tx-index
