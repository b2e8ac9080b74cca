-- One more step leaves the clause alone.
use Rattle.std.proofs.Common.{sym, refl}
use Rattle.ipa_sat.proofs.Jumping.{LeavesAlone-step, IsFree-step, same_among}
use Rattle.ipa_sat.proofs.explain.last_level.Goals as goal

pub returns-then-step : goal.returns-then-step
returns-then-step c = IsFree-step c.args.trail.now.steps c.args.clause.now c.steps.at c.in-Some.step c.steps-test.true c.steps.invariant (sym c.in-Some.ensures)
    (same_among c.args.clause.now c.args.clause.now c.opposite.result _ c.contains.result c.contains.ensures refl c.opposite.ensures c.if-contains.false) c.if-step.true

pub steps-preserved : goal.steps-preserved
steps-preserved c = LeavesAlone-step c.args.trail.now.steps c.args.clause.now c.steps.at c.in-Some.step c.steps-test.true c.steps.invariant (sym c.in-Some.ensures)
    (same_among c.args.clause.now c.args.clause.now c.opposite.result _ c.contains.result c.contains.ensures refl c.opposite.ensures c.if-contains.false)
