-- The clauses so far are at rest.
use Rattle.ipa_sat.specs.Checking.{RestBetween}
use Rattle.ipa_sat.proofs.check.find_among.Given as goal

abbrev pub invariant-loop-place : goal.invariant-loop-place
invariant-loop-place l = RestBetween l.cnf.clauses l.trail.steps l.from l.place
