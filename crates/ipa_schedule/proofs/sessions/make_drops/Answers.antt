use Rattle.ipa_schedule.specs.Running.{run_of}
use Rattle.ipa_schedule.proofs.Dropping.{falls_more, falls_full, falls_done}
use Rattle.ipa_schedule.proofs.Ways.{drop_grows, goes_err}
use Rattle.ipa_schedule.proofs.sessions.make_drops.Goals as goal

pub drops-smaller : goal.drops-smaller
drops-smaller c =
    let done = c.in_ok-take_step.ensures in
    drop_grows (run_of c.drops.world c.drops.progress) c.args.session
    (run_of c.take_step.new.world c.take_step.new.progress) c.drops.invariant.going done.went.1 c.drops-test.ensures
    done.went.0

pub drops-preserved : goal.drops-preserved
drops-preserved c =
    let done = c.in_ok-take_step.ensures in
    falls_more c.args.world.now c.args.progress.now c.args.session c.drops.world c.drops.progress c.drops.invariant
    c.drops-test.ensures c.take_step.new.world c.take_step.new.progress done.went.0 done.went.1 done.way done.later
    done.fates

pub returns-in_err-take_step-clause-went : goal.returns-in_err-take_step-clause-went
returns-in_err-take_step-clause-went c =
    let next = c.take_step.new.world in
    let more = c.take_step.new.progress in
    goes_err c.from_residual.result c.in_err-take_step.field-0.0 more.full _ _ c.from_residual.ensures.1
    c.in_err-take_step.ensures.went
    (falls_full c.args.world.now c.args.progress.now c.args.session c.drops.world c.drops.progress c.drops.invariant
    c.drops-test.ensures next more)

pub returns-clause-went : goal.returns-clause-went
returns-clause-went c = (
  falls_done c.args.world.now c.args.progress.now c.args.session c.drops.world c.drops.progress c.drops.invariant
      c.drops-test.ensures,
  c.drops.invariant.going,
)
