use Rattle.std.proofs.Common.{◌≡◌, ℕ, ◌<◌, List, length, Some, slice_get, sym, ◌∙◌, ap, subst, arith}
use Rattle.ipa_clock.specs.declared.cut.Cut.{Cut}
use Rattle.ipa_spec.specs.Fits.{IsFit}
use Rattle.ipa_history.specs.Histories.{IsMember}
use Rattle.ipa_history.specs.PushLaws.{at_place}
use Rattle.ipa_history.specs.declared.history.Tx.{Tx}
use Rattle.ipa_gate.specs.Agreements.{beyond_of}
use Rattle.ipa_gate.specs.Settings.{SettingParts}
use Rattle.ipa_weather.specs.Arrivals.{Frame}
use Rattle.ipa_world.specs.Worlds.{WorldParts, link_of}
use Rattle.ipa_world.specs.Lawful.{IsLawful}
use Rattle.ipa_schedule.specs.Turns.{carried_all}
use Rattle.ipa_schedule.proofs.Passing.{beyond_member, batch_frames, way_after, sent_of, ok_then}
use Rattle.ipa_schedule.proofs.Receiving.{carried_shaped}
use Rattle.ipa_schedule.proofs.sending.send.Goals as goal

-- what the sender knows of the receiver
known_of : (w : WorldParts) → IsLawful w → (from to : ℕ) → from < length w.logs → to < length w.logs →
    (known : Cut) × (slice_get w.peers (link_of from to) ≡ Some known)
known_of w lawful from to sends receives =
    let few = lawful.logs.few in
    let size = lawful.senders in
    at_place w.peers (link_of from to) (omega (arith, few, size, sends, receives))

low : (w : WorldParts) → IsLawful w → (to : ℕ) → to < length w.logs → to < 8
low w lawful to receives = let few = lawful.logs.few in omega (arith, few, receives)

pub frames_of-requires : goal.frames_of-requires
frames_of-requires g c t m =
    let w = c.args.world.now in
    let lawful = c.law_world_is_lawful.ensures.lawful in
    let log = at_place w.logs c.args.from c.requires.link.sends in
    let known = known_of w lawful c.args.from c.args.to c.requires.link.sends c.requires.link.receives in
    let spec : c.spec.result.now ≡ w.setting.spec = c.spec.ensures.spec ∙ c.accepted.ensures.spec
    ∙ ap (λ (s : SettingParts). s.spec) c.setting.ensures in
    let batch = c.in_ok-batch.ensures log.0 known.0 log.1 known.1 in
    carried_shaped w.setting lawful.setting.few (subst IsFit spec c.spec_is_fit.ensures.fit) t
    ((lawful.logs.logs c.args.from log.0 log.1).shaped t (beyond_member log.0 known.0 t
    (subst (λ (ts : List Tx). IsMember ts t) (c.as_slice.ensures ∙ batch) m)))

pub returns-clause-sent : goal.returns-clause-sent
returns-clause-sent g c =
    let w = c.args.world.now in
    let p = c.args.progress.now in
    let lawful = c.law_world_is_lawful.ensures.lawful in
    let log = at_place w.logs c.args.from c.requires.link.sends in
    let known = known_of w lawful c.args.from c.args.to c.requires.link.sends c.requires.link.receives in
    let are : c.in_ok-frames.frames ≡ carried_all (beyond_of log.0 known.0) = c.in_ok-frames.ensures.frames
    ∙ ap carried_all (c.as_slice.ensures ∙ c.in_ok-batch.ensures log.0 known.0 log.1 known.1) in
    ok_then c.pass_over.result _ _ c.pass_over.ensures.passed (λ arrived passed.
    sent_of w p c.pass_over.new.progress c.args.from c.args.to log.0 known.0 c.in_ok-frames.frames arrived
    (low w lawful c.args.to c.requires.link.receives) c.requires.way log.1 known.1 are (λ t m.
    c.in_ok-frames.ensures.framed t (subst (λ (ts : List Tx). IsMember ts t)
    (sym (c.as_slice.ensures ∙ c.in_ok-batch.ensures log.0 known.0 log.1 known.1)) m)) c.pass_over.ensures.held.full passed)

pub returns-clause-way : goal.returns-clause-way
returns-clause-way g c =
    let w = c.args.world.now in
    let lawful = c.law_world_is_lawful.ensures.lawful in
    let known = known_of w lawful c.args.from c.args.to c.requires.link.sends c.requires.link.receives in
    way_after w c.args.progress.now c.pass_over.new.progress c.args.from c.args.to c.in_ok-frames.frames
    (low w lawful c.args.to c.requires.link.receives) c.requires.way (λ log frame at m. batch_frames log known.0 (λ t n.
    c.in_ok-frames.ensures.framed t (subst (λ (ts : List Tx). IsMember ts t)
    (sym (c.as_slice.ensures ∙ c.in_ok-batch.ensures log known.0 at known.1)) n)) frame
    (subst (λ (fs : List Frame). IsMember fs frame) (c.in_ok-frames.ensures.frames
    ∙ ap carried_all (c.as_slice.ensures ∙ c.in_ok-batch.ensures log known.0 at known.1)) m))
    c.pass_over.ensures.held
