use Rattle.std.proofs.Common.{◌≡◌, ℕ, ◌+◌, List, [], ◌∷◌, ◌++◌, length, map, take, sym, ◌∙◌, ap, subst, arith}
use Rattle.std.proofs.lemmas.List.{take_more}
use Rattle.ipa_reader.specs.declared.sessions.SessionWork.{SessionWork}
use Rattle.ipa_world.specs.Worlds.{seat_of}
use Rattle.ipa_world.specs.Seats.{seat_parts}
use Rattle.ipa_world.specs.Standing.{IsSeated, AreSeated}
use Rattle.ipa_world.specs.Places.{AreUnread}
use Rattle.ipa_world.specs.declared.seats.Seat.{Seat}
use Rattle.ipa_world.proofs.StartLemmas.{seats_next, AreSeated-push, AreUnread-push}
use Rattle.ipa_world.proofs.world.new_seats.Goals as goal

pub loop-work-preserved : goal.loop-work-preserved
loop-work-preserved c =
    let more : take (c.loop-work.work-index + 1) c.args.sessions.now
    ≡ take c.loop-work.work-index c.args.sessions.now ++ c.work-item.result ∷ [] =
    take_more c.args.sessions.now c.loop-work.work-index c.work-item.result c.loop-work-test.true
    ∙ ap (λ (x : SessionWork). take c.loop-work.work-index c.args.sessions.now ++ x ∷ []) (sym c.work-item.is) in
    let many : c.len-origin.result ≡ length c.loop-work.seats.items =
    omega (arith, c.len-origin.ensures, c.loop-work.seats.ok.0) in
    record {
      parts = subst (λ (xs : List Seat). map seat_parts xs
          ≡ map seat_of (take (c.loop-work.work-index + 1) c.args.sessions.now)) (sym c.in_ok-push.ensures.items)
          (seats_next c.loop-work.seats.items (take c.loop-work.work-index c.args.sessions.now)
          (take (c.loop-work.work-index + 1) c.args.sessions.now) c.work-item.result c.in_ok-new_seat.field-0
          c.loop-work.invariant.parts more c.in_ok-new_seat.ensures.parts);
      seated = subst (λ (xs : List Seat). AreSeated c.args.setting.now xs) (sym c.in_ok-push.ensures.items)
          (AreSeated-push c.args.setting.now c.loop-work.seats.items c.in_ok-new_seat.field-0
          c.loop-work.invariant.seated (subst (λ (k : ℕ). IsSeated c.args.setting.now k c.in_ok-new_seat.field-0) many
          c.in_ok-new_seat.ensures.seated));
      unread = subst (λ (xs : List Seat). AreUnread xs) (sym c.in_ok-push.ensures.items)
          (AreUnread-push c.loop-work.seats.items c.in_ok-new_seat.field-0 c.loop-work.invariant.unread
          c.in_ok-new_seat.ensures.unread);
    }
