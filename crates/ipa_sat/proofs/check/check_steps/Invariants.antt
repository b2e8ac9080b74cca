-- The steps so far are derived.
use Rattle.std.proofs.Common.{take}
use Rattle.ipa_sat.specs.Refutation.{clauses_of}
use Rattle.ipa_sat.proofs.Stepping.{ChecksSoFar}
use Rattle.ipa_sat.proofs.check.check_steps.Given as goal

abbrev pub invariant-loop-step : goal.invariant-loop-step
invariant-loop-step l = ChecksSoFar l.cnf l.known (clauses_of (take l.step-index l.steps)) l.ends
