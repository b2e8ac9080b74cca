-- The clauses so far are steps.
use Rattle.ipa_sat.proofs.Growth.{StepsSoFar}
use Rattle.ipa_sat.proofs.answer.steps_from.Given as goal

abbrev pub invariant-loop-place : goal.invariant-loop-place
invariant-loop-place l = StepsSoFar l.cnf.vars l.cnf.clauses l.from l.place l.steps
