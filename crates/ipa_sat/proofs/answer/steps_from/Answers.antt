-- One more clause is a step.
use Rattle.std.proofs.Common.{sym}
use Rattle.ipa_sat.proofs.Growth.{StepsSoFar-more}
use Rattle.ipa_sat.proofs.answer.steps_from.Goals as goal

pub loop-place-preserved : goal.loop-place-preserved
loop-place-preserved c =
    StepsSoFar-more c.args.cnf.now.vars c.args.cnf.now.clauses c.args.from c.loop-place.place c.loop-place.steps c.push.new.self c.in_ok-step_of.field-0 c.in-Some.clause.now
    c.loop-place.invariant (sym c.in-Some.ensures.value) c.in_ok-step_of.ensures c.in-Some.ensures.range c.in_ok-push.ensures.ok
