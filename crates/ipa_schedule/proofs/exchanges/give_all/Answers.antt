use Rattle.ipa_schedule.proofs.Later.{later_itself}
use Rattle.ipa_schedule.proofs.Ways.{goes_err}
use Rattle.ipa_schedule.proofs.Giving.{gives_none, gives_next, gives_more, gives_full, gives_done}
use Rattle.ipa_schedule.proofs.exchanges.give_all.Goals as goal

pub loop-place-init : goal.loop-place-init
loop-place-init c = gives_none c.args.world.now c.args.progress.now c.args.from c.args.to c.entry_count-count.result
    c.requires.going c.requires.way (later_itself c.args.world.now) c.requires.link c.entry_count-count.ensures

pub take_step-requires-clause-of : goal.take_step-requires-clause-of
take_step-requires-clause-of c = gives_next c.args.world.now c.args.progress.now c.args.from c.args.to
    c.entry_count-count.result c.loop-place.place c.loop-place.world c.loop-place.progress c.loop-place.invariant
    c.loop-place-test.true

pub loop-place-preserved : goal.loop-place-preserved
loop-place-preserved c =
    let done = c.in_ok-take_step.ensures in
    gives_more c.args.world.now c.args.progress.now c.args.from c.args.to c.entry_count-count.result c.loop-place.place
    c.loop-place.world c.loop-place.progress c.loop-place.invariant c.loop-place-test.true c.take_step.new.world
    c.take_step.new.progress done.went.0 done.went.1 done.way done.later done.fates

pub returns-in_err-take_step-clause-went : goal.returns-in_err-take_step-clause-went
returns-in_err-take_step-clause-went c =
    let next = c.take_step.new.world in
    let more = c.take_step.new.progress in
    goes_err c.from_residual.result c.in_err-take_step.field-0.0 more.full _ _ c.from_residual.ensures.1
    c.in_err-take_step.ensures.went
    (gives_full c.args.world.now c.args.progress.now c.args.from c.args.to c.entry_count-count.result
    c.loop-place.place c.loop-place.world c.loop-place.progress c.loop-place.invariant c.loop-place-test.true next more)

pub returns-clause-went : goal.returns-clause-went
returns-clause-went c = (
  gives_done c.args.world.now c.args.progress.now c.args.from c.args.to c.entry_count-count.result
      c.loop-place.place c.loop-place.world c.loop-place.progress c.loop-place.invariant c.loop-place-test.false,
  c.loop-place.invariant.going,
)
