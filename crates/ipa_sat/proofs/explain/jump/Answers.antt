-- One more level is cut off.
use Rattle.ipa_sat.proofs.Jumping.{Jumps-cut}
use Rattle.ipa_sat.proofs.explain.jump.Goals as goal

pub levels-preserved : goal.levels-preserved
levels-preserved c = Jumps-cut c.args.learned.now c.args.trail.now c.levels.trail c.cut.new.trail c.in-Some.place c.levels.invariant (rw c.as_slice.ensures.value at c.in-Some.ensures) c.cut.ensures.vars c.cut.ensures.steps
