use Rattle.std.proofs.Common.{◌≡◌, List, length, Some, slice_get, refl, sym, ◌∙◌, subst}
use Rattle.std.proofs.lemmas.Option.{slice_get_read}
use Rattle.ipa_history.specs.Histories.{IsMember}
use Rattle.ipa_history.specs.declared.history.Tx.{Tx}
use Rattle.ipa_weather.specs.Arrivals.{Frame}
use Rattle.ipa_schedule.specs.Running.{IsFrameOf, AreBorne}
use Rattle.ipa_schedule.proofs.Later.{later_itself}
use Rattle.ipa_schedule.proofs.Receiving.{receives_none, receives_next, its_tx, its_member, its_framing, its_frame, receives_full, receives_more, same_log}
use Rattle.ipa_schedule.proofs.Ways.{goes_err}
use Rattle.ipa_schedule.proofs.links.receive_all.Goals as goal

pub loop-frame-init : goal.loop-frame-init
loop-frame-init c = receives_none c.args.world.now c.args.progress.now c.args.from c.args.to c.args.frames.now
    c.requires.going c.requires.way (later_itself c.args.world.now) c.requires.link c.requires.sent

pub receive-requires-clause-sent : goal.receive-requires-clause-sent
receive-requires-clause-sent c log at =
    let frames = c.args.frames.now in
    let k = c.loop-frame.frame-index in
    let frame : Frame = c.frame-item.result in
    let here : slice_get frames k ≡ Some frame =
    slice_get_read frames (length frames) k frame refl c.loop-frame-test.true c.frame-item.is in
    subst (λ (bytes : Frame). IsFrameOf log bytes) (sym c.as_slice.ensures)
    (receives_next c.args.world.now c.args.progress.now c.args.from c.args.to frames k c.loop-frame.world
    c.loop-frame.progress c.loop-frame.invariant frame here log at)

pub returns-in_err-receive-clause-went : goal.returns-in_err-receive-clause-went
returns-in_err-receive-clause-went c log arrived at are entries =
    let w = c.args.world.now in
    let p = c.args.progress.now in
    let frames = c.args.frames.now in
    let k = c.loop-frame.frame-index in
    let now = c.loop-frame.world in
    let so_far = c.loop-frame.progress in
    let is = c.loop-frame.invariant in
    let frame : Frame = c.frame-item.result in
    let here : slice_get frames k ≡ Some frame =
    slice_get_read frames (length frames) k frame refl c.loop-frame-test.true c.frame-item.is in
    let there : AreBorne is.log arrived = subst (λ (xs : List Tx). AreBorne xs arrived)
    (sym (same_log w p c.args.from c.args.to frames k now so_far is log at)) entries in
    let tx = its_tx w p c.args.from c.args.to frames k now so_far is frame here arrived are there in
    let member = its_member w p c.args.from c.args.to frames k now so_far is frame here arrived are there in
    let framed = its_framing w p c.args.from c.args.to frames k now so_far is frame here arrived are there in
    let bytes = its_frame w p c.args.from c.args.to frames k now so_far is frame here arrived are there in
    let next = c.receive.new.world in
    let more = c.receive.new.progress in
    goes_err c.from_residual.result c.in_err-receive.field-0.0 more.full _ _ c.from_residual.ensures.1
    (c.in_err-receive.ensures.went is.log tx.0 is.log_at member framed (c.as_slice.ensures ∙ bytes))
    (receives_full w p c.args.from c.args.to frames k now so_far is frame here arrived are there next more)

pub loop-frame-preserved : goal.loop-frame-preserved
loop-frame-preserved c =
    let frames = c.args.frames.now in
    let k = c.loop-frame.frame-index in
    let is = c.loop-frame.invariant in
    let frame : Frame = c.frame-item.result in
    let here : slice_get frames k ≡ Some frame =
    slice_get_read frames (length frames) k frame refl c.loop-frame-test.true c.frame-item.is in
    let done = c.in_ok-receive.ensures in
    let f = is.sent frame (record { place = k; at = here }) in
    receives_more c.args.world.now c.args.progress.now c.args.from c.args.to frames k c.loop-frame.world
    c.loop-frame.progress is frame here c.receive.new.world c.receive.new.progress
    (λ log t at m framed bytes. (done.went log t at m framed (c.as_slice.ensures ∙ bytes)).0)
    (done.went is.log f.tx is.log_at f.member f.framed (c.as_slice.ensures ∙ f.is)).1 done.way done.later done.fates done.log
