use Rattle.std.proofs.Common.{get_or}
use Rattle.std.proofs.lemmas.Option.{slice_get-get_or}
use Rattle.ipa_schedule.specs.declared.turns.Turn.TheVariants.{Session}
use Rattle.ipa_schedule.proofs.Ways.{goes_err}
use Rattle.ipa_schedule.proofs.Giving.{exchanges_next, exchanges_more, exchanges_full}
use Rattle.ipa_schedule.proofs.exchanges.exchange.Goals as goal

pub give_over-requires-clause-link : goal.give_over-requires-clause-link
give_over-requires-clause-link c =
    let links = c.args.links.now in
    let k = c.loop-link.link-index in
    exchanges_next c.args.world.now c.args.progress.now links k c.loop-link.world c.loop-link.progress
    c.loop-link.invariant (get_or links k (Session 0)) (slice_get-get_or links k (Session 0) c.loop-link-test.true)

pub returns-in_err-give_over-clause-went : goal.returns-in_err-give_over-clause-went
returns-in_err-give_over-clause-went c =
    let links = c.args.links.now in
    let k = c.loop-link.link-index in
    let next = c.give_over.new.world in
    let more = c.give_over.new.progress in
    let done = c.in_err-give_over.ensures in
    goes_err c.from_residual.result c.in_err-give_over.field-0.0 more.full _ _ c.from_residual.ensures.1 done.went
    (λ over full. exchanges_full c.args.world.now c.args.progress.now links k c.loop-link.world c.loop-link.progress
    c.loop-link.invariant (get_or links k (Session 0)) (slice_get-get_or links k (Session 0) c.loop-link-test.true) next
    more over done.later full)

pub loop-link-preserved : goal.loop-link-preserved
loop-link-preserved c =
    let links = c.args.links.now in
    let k = c.loop-link.link-index in
    let done = c.in_ok-give_over.ensures in
    exchanges_more c.args.world.now c.args.progress.now links k c.loop-link.world c.loop-link.progress
    c.loop-link.invariant (get_or links k (Session 0)) (slice_get-get_or links k (Session 0) c.loop-link-test.true)
    c.give_over.new.world c.give_over.new.progress done.went.0 done.went.1 done.way done.later done.fates
