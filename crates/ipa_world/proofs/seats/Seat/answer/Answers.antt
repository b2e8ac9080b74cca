use Rattle.std.proofs.Common.{◌≡◌, [], ◌∷◌, Some, None, refl, subst}
use Rattle.ipa_session.specs.Sessions.{IsDecision}
use Rattle.ipa_session.specs.declared.decision.Decision.{Decision}
use Rattle.ipa_session.specs.declared.decision.Decision.TheVariants.{Commit, Refused, Shown}
use Rattle.ipa_history.specs.declared.answers.Answer.TheVariants.{Refused as Declined, Shown as Told}
use Rattle.ipa_world.specs.Worlds.{WorldParts, next_request}
use Rattle.ipa_world.specs.Steps.{IsAct}
use Rattle.ipa_world.specs.Seats.{seat_parts}
use Rattle.ipa_world.proofs.PlaceLemmas.{longer_same, longer_by}
use Rattle.ipa_world.proofs.SeatLemmas.{on_ok, on_ok3, always, refused_none, shown_none, decided_cut, placed_same, placed_here, committed_at, told_at, resting_at, full_commit, room_some, room_told, room_resting}
use Rattle.ipa_world.proofs.seats.Seat.answer.Goals as goal

pub returns-in_default-clause-acted : goal.returns-in_default-clause-acted
returns-in_default-clause-acted c w is =
    let none : next_request (seat_parts c.args.self.now) ≡ None = cc in
    resting_at w c.args.self.now c.args.log.now is c.cut-cut.result c.cut-cut.ensures
    (c.requires.calm c.cut-cut.result c.cut-cut.ensures) none _
    (placed_here w c.args.self.now c.args.log.now is)

pub returns-in_default-clause-room : goal.returns-in_default-clause-room
returns-in_default-clause-room c w is =
    let none : next_request (seat_parts c.args.self.now) ≡ None = cc in
    room_resting w c.args.self.now c.args.log.now is c.cut-cut.result c.cut-cut.ensures
    (c.requires.calm c.cut-cut.result c.cut-cut.ensures) none

pub returns-in-Commit-clause-acted : goal.returns-in-Commit-clause-acted
returns-in-Commit-clause-acted c w is =
    let next : next_request (seat_parts c.args.self.now) ≡ Some c.in-Some.request = cc in
    let decision : IsDecision c.args.self.now.session c.cut-cut.result c.in-Some.request (Commit c.in-Commit.tx) =
    subst (λ (d : Decision). IsDecision c.args.self.now.session c.cut-cut.result c.in-Some.request d) c.in-Commit.is
    (c.in_ok-tx.ensures c.cut-cut.result c.cut-cut.ensures) in
    on_ok3 c.commit.result c.commit.ensures.seen c.commit.ensures.entries c.commit.ensures.outcomes
    (λ seen entries outcomes. subst (λ (x : WorldParts). IsAct w c.args.self.now.session.origin x)
    (placed_same w c.args.self.now.session.origin c.args.self.now c.commit.new.self c.commit.new.log
    c.commit.ensures.replica c.commit.ensures.requests)
    (committed_at w c.args.self.now c.args.log.now is c.cut-cut.result c.cut-cut.ensures
    (c.requires.calm c.cut-cut.result c.cut-cut.ensures) c.in-Some.request next c.in-Commit.tx
    (decided_cut c.args.self.now.session c.cut-cut.result c.in-Some.request c.in-Commit.tx decision) decision
    c.commit.new.self.session.seen c.commit.new.log.entries c.commit.new.self.outcomes seen entries outcomes))

pub returns-in-Commit-clause-full : goal.returns-in-Commit-clause-full
returns-in-Commit-clause-full c w is e =
    let next : next_request (seat_parts c.args.self.now) ≡ Some c.in-Some.request = cc in
    full_commit w c.args.self.now c.args.log.now is c.cut-cut.result c.cut-cut.ensures
    (c.requires.calm c.cut-cut.result c.cut-cut.ensures) c.in-Some.request next c.in-Commit.tx
    (subst (λ (d : Decision). IsDecision c.args.self.now.session c.cut-cut.result c.in-Some.request d) c.in-Commit.is
    (c.in_ok-tx.ensures c.cut-cut.result c.cut-cut.ensures)) (c.commit.ensures.full e)

pub returns-in-Commit-clause-room : goal.returns-in-Commit-clause-room
returns-in-Commit-clause-room c w is = on_ok c.commit.result c.commit.ensures.room
    (λ room. room_some w c.args.self.now c.args.log.now is c.cut-cut.result c.cut-cut.ensures room)

pub returns-in-Refused-clause-acted : goal.returns-in-Refused-clause-acted
returns-in-Refused-clause-acted c w is =
    let next : next_request (seat_parts c.args.self.now) ≡ Some c.in-Some.request = cc in
    let decision : IsDecision c.args.self.now.session c.cut-cut.result c.in-Some.request (Refused c.in-Refused.reason) =
    subst (λ (d : Decision). IsDecision c.args.self.now.session c.cut-cut.result c.in-Some.request d) c.in-Refused.is
    (c.in_ok-tx.ensures c.cut-cut.result c.cut-cut.ensures) in
    on_ok c.tell.result c.tell.ensures.told (λ told. told_at w c.args.self.now c.args.log.now is c.cut-cut.result
    c.cut-cut.ensures (c.requires.calm c.cut-cut.result c.cut-cut.ensures) c.in-Some.request next
    (Declined c.in-Refused.reason) decision.answer
    (refused_none w.setting.spec c.args.self.now.session.origin c.cut-cut.result c.in-Some.request c.in-Refused.reason)
    c.tell.new.outcomes told)

pub returns-in-Refused-clause-room : goal.returns-in-Refused-clause-room
returns-in-Refused-clause-room c w is =
    let next : next_request (seat_parts c.args.self.now) ≡ Some c.in-Some.request = cc in
    let decision : IsDecision c.args.self.now.session c.cut-cut.result c.in-Some.request (Refused c.in-Refused.reason) =
    subst (λ (d : Decision). IsDecision c.args.self.now.session c.cut-cut.result c.in-Some.request d) c.in-Refused.is
    (c.in_ok-tx.ensures c.cut-cut.result c.cut-cut.ensures) in
    always c.tell.result (room_told w c.args.self.now c.args.log.now is c.cut-cut.result c.cut-cut.ensures
    (c.requires.calm c.cut-cut.result c.cut-cut.ensures) c.in-Some.request (Declined c.in-Refused.reason) next
    (refused_none w.setting.spec c.args.self.now.session.origin c.cut-cut.result c.in-Some.request c.in-Refused.reason)
    decision.answer)

pub returns-in-Shown-clause-acted : goal.returns-in-Shown-clause-acted
returns-in-Shown-clause-acted c w is =
    let next : next_request (seat_parts c.args.self.now) ≡ Some c.in-Some.request = cc in
    let decision : IsDecision c.args.self.now.session c.cut-cut.result c.in-Some.request (Shown c.in-Shown.state) =
    subst (λ (d : Decision). IsDecision c.args.self.now.session c.cut-cut.result c.in-Some.request d) c.in-Shown.is
    (c.in_ok-tx.ensures c.cut-cut.result c.cut-cut.ensures) in
    on_ok c.tell-in-Shown.result c.tell-in-Shown.ensures.told (λ told. told_at w c.args.self.now c.args.log.now is
    c.cut-cut.result c.cut-cut.ensures (c.requires.calm c.cut-cut.result c.cut-cut.ensures) c.in-Some.request next
    (Told c.in-Shown.state) decision.answer
    (shown_none w.setting.spec c.args.self.now.session.origin c.cut-cut.result c.in-Some.request c.in-Shown.state)
    c.tell-in-Shown.new.outcomes told)

pub returns-in-Shown-clause-room : goal.returns-in-Shown-clause-room
returns-in-Shown-clause-room c w is =
    let next : next_request (seat_parts c.args.self.now) ≡ Some c.in-Some.request = cc in
    let decision : IsDecision c.args.self.now.session c.cut-cut.result c.in-Some.request (Shown c.in-Shown.state) =
    subst (λ (d : Decision). IsDecision c.args.self.now.session c.cut-cut.result c.in-Some.request d) c.in-Shown.is
    (c.in_ok-tx.ensures c.cut-cut.result c.cut-cut.ensures) in
    always c.tell-in-Shown.result (room_told w c.args.self.now c.args.log.now is c.cut-cut.result c.cut-cut.ensures
    (c.requires.calm c.cut-cut.result c.cut-cut.ensures) c.in-Some.request (Told c.in-Shown.state) next
    (shown_none w.setting.spec c.args.self.now.session.origin c.cut-cut.result c.in-Some.request c.in-Shown.state)
    decision.answer)

pub returns-in_default-clause-sees : goal.returns-in_default-clause-sees
returns-in_default-clause-sees c = longer_same c.args.self.now.session.seen c.args.self.now.session.seen refl

pub returns-in_default-clause-grows : goal.returns-in_default-clause-grows
returns-in_default-clause-grows c = longer_same c.args.log.now.entries c.args.log.now.entries refl

pub returns-in_err-tx-clause-sees : goal.returns-in_err-tx-clause-sees
returns-in_err-tx-clause-sees c = longer_same c.args.self.now.session.seen c.args.self.now.session.seen refl

pub returns-in_err-tx-clause-grows : goal.returns-in_err-tx-clause-grows
returns-in_err-tx-clause-grows c = longer_same c.args.log.now.entries c.args.log.now.entries refl

pub returns-in-Refused-clause-sees : goal.returns-in-Refused-clause-sees
returns-in-Refused-clause-sees c = longer_same c.args.self.now.session.seen c.args.self.now.session.seen refl

pub returns-in-Refused-clause-grows : goal.returns-in-Refused-clause-grows
returns-in-Refused-clause-grows c = longer_same c.args.log.now.entries c.args.log.now.entries refl

pub returns-in-Shown-clause-sees : goal.returns-in-Shown-clause-sees
returns-in-Shown-clause-sees c = longer_same c.args.self.now.session.seen c.args.self.now.session.seen refl

pub returns-in-Shown-clause-grows : goal.returns-in-Shown-clause-grows
returns-in-Shown-clause-grows c = longer_same c.args.log.now.entries c.args.log.now.entries refl

pub returns-in-Commit-clause-sees : goal.returns-in-Commit-clause-sees
returns-in-Commit-clause-sees c = longer_by c.commit.result c.args.self.now.session.seen c.commit.new.self.session.seen
    (c.in-Commit.tx ∷ []) c.commit.ensures.seen c.commit.ensures.seen_stays

pub returns-in-Commit-clause-grows : goal.returns-in-Commit-clause-grows
returns-in-Commit-clause-grows c = longer_by c.commit.result c.args.log.now.entries c.commit.new.log.entries
    (c.in-Commit.tx ∷ []) c.commit.ensures.entries c.commit.ensures.log_stays
