use Rattle.ipa_gate.specs.Agreements.{IsCoveredTo}
use Rattle.ipa_gate.proofs.log.Log.covered_to.Given as goal

abbrev pub invariant-loop-place : goal.invariant-loop-place
invariant-loop-place l = IsCoveredTo l.entries l.peer l.place
