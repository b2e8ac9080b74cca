-- Fewer steps are left to look at.
use Rattle.std.proofs.Common.{◌≤◌, length}
use Rattle.ipa_sat.proofs.learn.last_false.Given as goal

abbrev pub invariant-steps : goal.invariant-steps
invariant-steps l = l.at ≤ length l.trail.steps

abbrev pub decreases-steps : goal.decreases-steps
decreases-steps l = l.at
