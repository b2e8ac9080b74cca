use Rattle.ipa_schedule.proofs.Closing.{plays_turned, unless_err}
use Rattle.ipa_schedule.proofs.Gone.{gone_along}
use Rattle.ipa_schedule.proofs.Taking.{plays_none, plays_more, plays_full}
use Rattle.ipa_schedule.proofs.running.play.Goals as goal

pub turns-init : goal.turns-init
turns-init g c = plays_none _ _ c.args.world.now c.args.progress.now c.args.plan.now c.args.weathers.now.items
    c.requires.going c.requires.way c.requires.plan c.requires.weathers

pub turns-preserved : goal.turns-preserved
turns-preserved g c =
    let is = c.turns.invariant in
    let done = c.in_ok-take_next.ensures in
    let turned = done.turned is.taken is.at in
    plays_more _ _ c.args.world.now c.args.progress.now c.args.plan.now c.args.weathers.now.items c.turns.world
    c.turns.progress c.turns.plan c.turns.weathers.items is c.turns-test.ensures c.take_next.new.world
    c.take_next.new.progress turned.0 c.take_next.new.plan c.take_next.new.weathers.items turned.1 done.way done.later
    done.number (done.plan is.taken is.at) done.left done.gone

pub returns-in_err-take_next-clause-played : goal.returns-in_err-take_next-clause-played
returns-in_err-take_next-clause-played g c =
    let is = c.turns.invariant in
    plays_turned c.from_residual.result c.in_err-take_next.field-0.0 c.take_next.new.progress.full _ _ _
    c.from_residual.ensures.1 (c.in_err-take_next.ensures.turned is.taken is.at)
    (plays_full _ _ c.args.world.now c.args.progress.now c.args.plan.now c.args.weathers.now.items c.turns.world
    c.turns.progress c.turns.plan c.turns.weathers.items is c.turns-test.ensures c.take_next.new.world
    c.take_next.new.progress)

pub returns-in_err-take_next-clause-gone : goal.returns-in_err-take_next-clause-gone
returns-in_err-take_next-clause-gone g c =
    unless_err (Unit {0}) c.from_residual.result c.in_err-take_next.field-0.0 _ _ c.from_residual.ensures.1
    c.in_err-take_next.ensures.gone (λ gone.
    gone_along _ _ c.args.weathers.now.items c.turns.weathers.items c.take_next.new.weathers.items
    c.args.progress.now.fates c.turns.progress.fates c.take_next.new.progress.fates c.turns.invariant.gone gone)
