use Rattle.std.proofs.Common.{◌≡◌, ℕ, ◌<◌, ◌≤◌, length, sym, ◌∙◌, arith}
use Rattle.ipa_history.specs.Histories.{IsMember}
use Rattle.ipa_schedule.specs.Running.{run_of}
use Rattle.ipa_schedule.proofs.Gone.{gone_as}
use Rattle.ipa_schedule.proofs.Parts.{part_offered_all}
use Rattle.ipa_schedule.proofs.Passing.{turn_of_link, hearing_none, unless_always}
use Rattle.ipa_schedule.proofs.Receiving.{entries_of_frames}
use Rattle.ipa_schedule.proofs.Ways.{goes_err, goes_whole}
use Rattle.ipa_schedule.proofs.links.link_turn.Goals as goal

pub returns-in_err-receive_all-clause-went : goal.returns-in_err-receive_all-clause-went
returns-in_err-receive_all-clause-went g c =
    let w = c.args.world.now in
    let p = c.args.progress.now in
    let q = c.send.new.progress in
    let next = c.receive_all.new.world in
    let more = c.receive_all.new.progress in
    let s = c.in_ok-arrived.ensures.sent in
    let txs = entries_of_frames s.log c.in_ok-arrived.arrived s.entries in
    let receives = c.requires.link.receives in
    let replicas = c.in_err-receive_all.ensures.later.replicas in
    goes_err c.from_residual-in_err-receive_all.result c.in_err-receive_all.field-0.0 more.full _ _
    c.from_residual-in_err-receive_all.ensures.1
    (c.in_err-receive_all.ensures.went s.log txs.txs s.link.log_at (txs.are ∙ sym c.as_slice.ensures) txs.borne)
    (λ offers full.
    let part = part_offered_all (run_of w q) c.args.from c.args.to txs.txs (run_of next more)
    (λ t m. record { log = s.log; log_at = s.link.log_at; member = txs.borne.entries t m }) offers in
    turn_of_link w p q c.args.from c.args.to c.in_ok-arrived.arrived s txs.txs txs.are txs.borne.entries (run_of next more)
    (run_of next more) offers (hearing_none (run_of next more) c.args.from c.args.to
    (part.lawful c.law_world_is_lawful.ensures.lawful) (omega (arith, receives, replicas)) full))

pub returns-in_err-receive_all-clause-gone : goal.returns-in_err-receive_all-clause-gone
returns-in_err-receive_all-clause-gone g c = unless_always c.from_residual-in_err-receive_all.result _
    (gone_as _ _ c.args.weathers.now.items c.send.new.weathers.items c.args.progress.now.fates c.send.new.progress.fates
    c.receive_all.new.progress.fates c.in_ok-arrived.ensures.gone c.receive_all.ensures.fates)

pub hear-requires-clause-going : goal.hear-requires-clause-going
hear-requires-clause-going g c =
    let s = c.in_ok-arrived.ensures.sent in
    let txs = entries_of_frames s.log c.in_ok-arrived.arrived s.entries in
    (c.in_ok-receive_all.ensures.went s.log txs.txs s.link.log_at (txs.are ∙ sym c.as_slice.ensures) txs.borne).1

pub returns-clause-went : goal.returns-clause-went
returns-clause-went g c =
    let w = c.args.world.now in
    let p = c.args.progress.now in
    let q = c.send.new.progress in
    let s = c.in_ok-arrived.ensures.sent in
    let txs = entries_of_frames s.log c.in_ok-arrived.arrived s.entries in
    let offers = (c.in_ok-receive_all.ensures.went s.log txs.txs s.link.log_at (txs.are ∙ sym c.as_slice.ensures)
    txs.borne).0 in
    goes_whole c.hear.result c.hear.new.progress.full _ _ c.hear.ensures.went (λ hears.
    turn_of_link w p q c.args.from c.args.to c.in_ok-arrived.arrived s txs.txs txs.are txs.borne.entries
    (run_of c.receive_all.new.world c.receive_all.new.progress) (run_of c.hear.new.world c.hear.new.progress) offers hears)

pub returns-clause-gone : goal.returns-clause-gone
returns-clause-gone g c = unless_always c.hear.result _
    (gone_as _ _ c.args.weathers.now.items c.send.new.weathers.items c.args.progress.now.fates c.send.new.progress.fates
    c.hear.new.progress.fates c.in_ok-arrived.ensures.gone (c.hear.ensures.fates ∙ c.receive_all.ensures.fates))
