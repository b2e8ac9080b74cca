use Rattle.ipa_schedule.proofs.Closing.{unless_err, ready_next}
use Rattle.ipa_schedule.proofs.Gone.{gone_none}
use Rattle.ipa_schedule.proofs.runs.turn_of.Goals as goal

pub returns-then-progress-clause-fates : goal.returns-then-progress-clause-fates
returns-then-progress-clause-fates g c = gone_none _ _ c.args.weathers.now.items c.args.progress.now.fates

pub returns-then-is_over-clause-fates : goal.returns-then-is_over-clause-fates
returns-then-is_over-clause-fates g c = gone_none _ _ c.args.weathers.now.items c.args.progress.now.fates

pub returns-in_err-take_next-clause-fates : goal.returns-in_err-take_next-clause-fates
returns-in_err-take_next-clause-fates g c = unless_err (Unit {0}) c.from_residual.result c.in_err-take_next.field-0.0 _ _
    c.from_residual.ensures.1 c.in_err-take_next.ensures.gone (λ gone. gone)

pub returns-in_err-take_next-clause-ready : goal.returns-in_err-take_next-clause-ready
returns-in_err-take_next-clause-ready g c =
    let done = c.in_err-take_next.ensures in
    ready_next c.args.world.now c.args.progress.now c.args.plan.now c.take_next.new.world c.take_next.new.progress
    c.take_next.new.plan c.requires.ready done.later done.way done.plan

pub returns-clause-turned : goal.returns-clause-turned
returns-clause-turned g c k at =
    let done = c.in_ok-take_next.ensures in
    let turned = done.turned k at in
    record {
      going = c.if-progress.false;
      on = c.if-is_over.ensures;
      turned = turned.0;
      room = turned.1;
      begun = done.plan k at;
    }

pub returns-clause-fates : goal.returns-clause-fates
returns-clause-fates g c = c.in_ok-take_next.ensures.gone

pub returns-clause-ready : goal.returns-clause-ready
returns-clause-ready g c =
    let done = c.in_ok-take_next.ensures in
    ready_next c.args.world.now c.args.progress.now c.args.plan.now c.take_next.new.world c.take_next.new.progress
    c.take_next.new.plan c.requires.ready done.later done.way done.plan
