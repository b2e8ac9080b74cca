-- After the settling all logs hold the same transactions, the first session has seen all of them, and no drop is due there.
--
--   part_exchange, part_calmed     the parts of a settling
--   HasSeenAll w i       the session has seen each entry of each log
--   saw_all              the first session has, once it has pulled after an exchange
--   IsAtRest w           all logs are the same, and the first session has seen all and is calm
--   at_rest              so it is after the settling
--   done_still           where no request is left, none is after it
use Rattle.std.proofs.Common.{◌≡◌, ℕ, ◌+◌, ◌<◌, ◌≤◌, ◌⊎◌, inl, inr, Bool, true, false, not, List, [], ◌∷◌, ◌++◌, length, Some, None, slice_get, get_or, refl, sym, ◌∙◌, ap, subst, arith}
use Rattle.std.specs.List.{list_any}
use Rattle.std.proofs.lemmas.Bool.{cases_Bool}
use Rattle.std.proofs.lemmas.Option.{slice_get_within, slice_get-get_or}
use Rattle.ipa_logic.specs.declared.facts.Request.{Request}
use Rattle.ipa_history.specs.Histories.{IsMember}
use Rattle.ipa_history.specs.MemberLaws.{member_none, member_first, member_later, member_cases, member-append_left, member-append_right, member-append_cases, member-filter, found}
use Rattle.ipa_history.specs.declared.history.Tx.{Tx}
use Rattle.ipa_history.specs.declared.outcomes.Outcome.{Outcome}
use Rattle.ipa_lift.specs.StandingLaws.{is_named, named_same}
use Rattle.ipa_gate.specs.Agreements.{lacks, news_of}
use Rattle.ipa_gate.specs.Settings.{SettingParts}
use Rattle.ipa_session.specs.Sessions.{IsCalmAt}
use Rattle.ipa_world.specs.Worlds.{SeatParts, WorldParts, session_at, seat_with, with_seat, with_log}
use Rattle.ipa_world.specs.Steps.{Actor, IsPulled, IsAct, with_made}
use Rattle.ipa_world.specs.Steps.IsAct.{drops, answers, rests}
use Rattle.ipa_world.specs.Lawful.{IsLawful, AreSame, HasNoneLeft}
use Rattle.ipa_world.specs.declared.steps.Step.TheVariants.{Pull, Act}
use Rattle.ipa_schedule.specs.Going.{RunParts, IsMoved}
use Rattle.ipa_schedule.specs.Going.IsMoved.{goes, fills, stopped}
use Rattle.ipa_schedule.specs.Turns.{IsCalmIn, IsDropping}
use Rattle.ipa_schedule.specs.Turns.IsDropping.{done, drops as falls, stopped as ceased}
use Rattle.ipa_schedule.specs.Schedules.{IsExchangeOver, IsExchange, IsExchanged, IsFirstCalmed, IsCalmed, IsSettled, links_of}
use Rattle.ipa_schedule.specs.Schedules.IsCalmed.{first, nobody}
use Rattle.ipa_schedule.specs.declared.turns.Turn.{Turn}
use Rattle.ipa_schedule.specs.declared.turns.Turn.TheVariants.{Session, Link}
use Rattle.ipa_schedule.proofs.Places.{set_cases, set_here}
use Rattle.ipa_schedule.specs.Running.{HasEntry, IsLater}
use Rattle.ipa_schedule.proofs.Listed.{links_are}
use Rattle.ipa_schedule.proofs.Parts.{IsPart, part_itself, part_same, part_along, part_moved, part_offered_all, part_dropping, sessions_stay, both_full}
use Rattle.ipa_schedule.proofs.Spreading.{one_entry, AreLinks, links_stay, spread_all, same_after, not_full, IsSpread}

-- an exchange over links of the world
pub part_exchange : (r : RunParts) (links : List Turn) (after : RunParts) → AreLinks r.world links →
    IsExchange r links after → IsPart r after
part_exchange r [] after are same = part_same r after same
part_exchange r (Session i ∷ links) after are none = absurd none
part_exchange r (Link from to ∷ links) after are (next, over, rest) =
    let one = part_offered_all r from to over.log next
    (λ t m. record { log = over.log; log_at = over.log_at; member = m }) over.offered in
    part_along r next after one (part_exchange next links after (links_stay r.world next.world links one.later
    (λ turn m. are turn (member_later (Link from to) links turn m))) rest)

pub part_exchanged : (r after : RunParts) → IsExchanged r after → IsPart r after
part_exchanged r after exchanged = part_exchange r (links_of (length r.world.logs)) after (links_are r.world) exchanged

pub part_calmed : (r after : RunParts) → IsCalmed r after → IsPart r after
part_calmed r after (first some calmed) =
    let one = part_moved r (Pull 0) calmed.pulled some calmed.pull in
    let same = sessions_stay r.world calmed.pulled.world one.later in
    part_along r calmed.pulled after one (part_dropping calmed.pulled 0 after (omega (arith, some, same)) calmed.drops)
part_calmed r after (nobody none same) = part_same r after same

-- the session has seen each entry of each log
pub record HasSeenAll (w : WorldParts) (i : ℕ) : Type 0 where
  pub seat : SeatParts
  pub seat_at : slice_get w.seats i ≡ Some seat
  pub all : (q : ℕ) (t : Tx) → HasEntry w q t → IsMember seat.seen t

-- a session that pulls where all logs are the same sees all of them
saw_pulled : (w : WorldParts) (i : ℕ) (after : WorldParts) → IsLawful w → AreSame w.logs → IsPulled w i after →
    HasSeenAll after i
saw_pulled w i after lawful same p = subst (λ (v : WorldParts). HasSeenAll v i) (sym p.after_is) (record {
  seat = seat_with p.actor.seat (p.actor.seat.seen ++ news_of p.actor.log p.actor.seat.seen) p.actor.seat.outcomes;
  seat_at = set_here w.seats i p.actor.seat
      (seat_with p.actor.seat (p.actor.seat.seen ++ news_of p.actor.log p.actor.seat.seen) p.actor.seat.outcomes)
      p.is_actor.seat_at;
  all = λ q t has. sees t (same.each q p.actor.seat.replica has.log p.actor.log t has.log_at p.is_actor.log_at has.member);
})
  where
    entry : (t : Tx) → IsMember p.actor.log t → HasEntry w p.actor.seat.replica t
    entry t m = record { log = p.actor.log; log_at = p.is_actor.log_at; member = m }

    lies : (t : Tx) → IsMember p.actor.seat.seen t → IsMember p.actor.log t
    lies t m =
        let has = lawful.seen i p.actor.seat p.is_actor.seat_at in
        let both : Some has.log ≡ Some p.actor.log = sym has.log_at ∙ p.is_actor.log_at in
        let one : has.log ≡ p.actor.log = cc in
        subst (λ (xs : List Tx). IsMember xs t) one (has.lies t m)

    sees : (t : Tx) → IsMember p.actor.log t →
        IsMember (p.actor.seat.seen ++ news_of p.actor.log p.actor.seat.seen) t
    sees t m = elim (cases_Bool (list_any (λ (u : Tx). is_named u t) p.actor.seat.seen)) [
      | inl named ↦
          let f = found (λ (u : Tx). is_named u t) p.actor.seat.seen named in
          let one : f.one ≡ t = one_entry w lawful p.actor.seat.replica p.actor.seat.replica f.one t
          (entry f.one (lies f.one f.member)) (entry t m) (named_same f.one t f.passes) in
          member-append_left p.actor.seat.seen (news_of p.actor.log p.actor.seat.seen) t
          (subst (λ (u : Tx). IsMember p.actor.seat.seen u) one f.member)
      | inr unnamed ↦ member-append_right p.actor.seat.seen (news_of p.actor.log p.actor.seat.seen) t
          (member-filter (lacks p.actor.seat.seen) p.actor.log t m (ap not unnamed))
    ]

-- and it has still once it has made more
saw_made : (w : WorldParts) (i : ℕ) (a : Actor) (made : List Tx) (outcomes : List Outcome) →
    slice_get w.seats i ≡ Some a.seat → slice_get w.logs a.seat.replica ≡ Some a.log → HasSeenAll w i →
    HasSeenAll (with_made w i a made outcomes) i
saw_made w i a made outcomes seat_at log_at saw = record {
  seat = seat_with a.seat (a.seat.seen ++ made) outcomes;
  seat_at = set_here w.seats i a.seat (seat_with a.seat (a.seat.seen ++ made) outcomes) seat_at;
  all = λ q t has. elim (set_cases w.logs a.seat.replica (a.log ++ made) q has.log has.log_at) [
    | inr there ↦ old t q (record { log = has.log; log_at = there; member = has.member })
    | inl here ↦ elim (member-append_cases a.log made t (subst (λ (xs : List Tx). IsMember xs t) (sym here.1) has.member)) [
      | inl before ↦ old t a.seat.replica (record { log = a.log; log_at = log_at; member = before })
      | inr new ↦ member-append_right a.seat.seen made t new
    ]
  ];
}
  where
    old : (t : Tx) (q : ℕ) → HasEntry w q t → IsMember (a.seat.seen ++ made) t
    old t q has =
        let both : Some saw.seat ≡ Some a.seat = sym saw.seat_at ∙ seat_at in
        let one : saw.seat ≡ a.seat = cc in
        member-append_left a.seat.seen made t (subst (λ (s : SeatParts). IsMember s.seen t) one (saw.all q t has))

saw_act : (w : WorldParts) (i : ℕ) (after : WorldParts) → IsAct w i after → HasSeenAll w i → HasSeenAll after i
saw_act w i after (drops d) saw = subst (λ (v : WorldParts). HasSeenAll v i) (sym d.after_is)
    (saw_made w i d.actor (d.tx ∷ []) d.actor.seat.outcomes d.is_actor.seat_at d.is_actor.log_at saw)
saw_act w i after (answers a) saw = subst (λ (v : WorldParts). HasSeenAll v i) (sym a.after_is)
    (saw_made w i a.actor _ (a.actor.seat.outcomes ++ a.outcome ∷ []) a.is_actor.seat_at a.is_actor.log_at saw)
saw_act w i after (rests s) saw = subst (λ (v : WorldParts). HasSeenAll v i) (sym s.after_is) saw

-- the session has seen all, and no drop is due there
pub record IsWatching (w : WorldParts) (i : ℕ) : Type 0 where
  pub saw : HasSeenAll w i
  pub calm : IsCalmIn w i

-- a run that was without room stays so
still_full : (r : RunParts) (i : ℕ) (after : RunParts) → IsDropping r i after → r.full ≡ true → after.full ≡ false → ⊥
still_full r i after (done _ _ _ d) full going = both_full r.full full d.going
still_full r i after (falls _ _ next _ on due moved rest) full going = both_full r.full full on
still_full r i after (ceased _ _ _ s) full going =
    both_full after.full (ap (λ (q : RunParts). q.full) s.after_is ∙ s.full) going

-- where the drops were made
saw_dropping : (r : RunParts) (i : ℕ) (after : RunParts) → IsDropping r i after → HasSeenAll r.world i →
    after.full ≡ false → IsWatching after.world i
saw_dropping r i after (done _ _ _ d) saw going = subst (λ (s : RunParts). IsWatching s.world i) (sym d.after_is)
    (record { saw = saw; calm = d.calm })
saw_dropping r i after (falls _ _ next _ on due (goes g) rest) saw going = saw_dropping next i after rest
    (subst (λ (s : RunParts). HasSeenAll s.world i) (sym g.after_is) (saw_act r.world i g.next g.step_is saw)) going
saw_dropping r i after (falls _ _ next _ on due (fills f) rest) saw going =
    absurd (still_full next i after rest (ap (λ (s : RunParts). s.full) f.after_is) going)
saw_dropping r i after (falls _ _ next _ on due (stopped s) rest) saw going = absurd (both_full r.full s.full on)
saw_dropping r i after (ceased _ _ _ s) saw going =
    absurd (both_full after.full (ap (λ (q : RunParts). q.full) s.after_is ∙ s.full) going)

-- the first session is watching, or there is none
pub data IsWatched (w : WorldParts) : Type 0 where
  watched : IsWatching w 0 → IsWatched w
  deserted : length w.seats ≡ 0 → IsWatched w

watch_pulled : (r : RunParts) (calmed : RunParts) (after : RunParts) → IsLawful r.world → AreSame r.world.logs →
    IsMoved r (Pull 0) calmed → IsDropping calmed 0 after → after.full ≡ false → IsWatching after.world 0
watch_pulled r calmed after lawful same (goes g) falling going = saw_dropping calmed 0 after falling
    (subst (λ (s : RunParts). HasSeenAll s.world 0) (sym g.after_is)
    (saw_pulled r.world 0 g.next lawful same g.step_is)) going
watch_pulled r calmed after lawful same (fills f) falling going = absurd f.full
watch_pulled r calmed after lawful same (stopped s) falling going =
    absurd (still_full calmed 0 after falling (ap (λ (q : RunParts). q.full) s.after_is ∙ s.full) going)

watch_calmed : (r after : RunParts) → IsLawful r.world → AreSame r.world.logs → IsCalmed r after → after.full ≡ false →
    IsWatched after.world
watch_calmed r after lawful same (first some c) going =
    watched (watch_pulled r c.pulled after lawful same c.pull c.drops going)
watch_calmed r after lawful same (nobody none is) going =
    deserted (ap (λ (s : RunParts). length s.world.seats) is ∙ none)

-- where a session's seen history stays, no drop is due there still
calm_stays : (w after : WorldParts) (i : ℕ) → IsLater w after → after.seats ≡ w.seats → IsCalmIn w i → IsCalmIn after i
calm_stays w after i later same c =
    let inside = slice_get_within w.logs c.actor.seat.replica c.actor.log c.is_actor.log_at in
    let replicas = later.replicas in
    record {
      actor = record {
        seat = c.actor.seat;
        log = get_or after.logs c.actor.seat.replica [];
        cut = c.actor.cut;
      };
      is_actor = record {
        seat_at = ap (λ (seats : List SeatParts). slice_get seats i) same ∙ c.is_actor.seat_at;
        log_at = slice_get-get_or after.logs c.actor.seat.replica [] (omega (arith, inside, replicas));
        clock = c.is_actor.clock;
      };
      calm = subst (λ (s : SettingParts). IsCalmAt (session_at s i c.actor.seat) c.actor.cut) (sym later.setting) c.calm;
    }

-- an exchange gives a watching session nothing new
still_watched : (r after : RunParts) → IsSpread r (links_of (length r.world.logs)) after → IsWatched r.world →
    IsWatched after.world
still_watched r after spread (deserted none) =
    deserted (ap (λ (seats : List SeatParts). length seats) spread.out.seats ∙ none)
still_watched r after spread (watched w) =
    let same = spread.out.seats in
    watched (record {
      saw = record {
        seat = w.saw.seat;
        seat_at = ap (λ (seats : List SeatParts). slice_get seats 0) same ∙ w.saw.seat_at;
        all = λ q t has. let s = spread.out.only q t has in w.saw.all s.replica t s.has;
      };
      calm = calm_stays r.world after.world 0 spread.part.later same w.calm;
    })

-- all logs are the same, and the first session has seen all and is calm
pub record IsAtRest (w : WorldParts) : Type 0 where
  pub same : AreSame w.logs
  pub watched : IsWatched w
  pub lawful : IsLawful w

-- so it is after the settling
pub at_rest : (r after : RunParts) → IsLawful r.world → IsSettled r after → after.full ≡ false → IsAtRest after.world
at_rest r after lawful s going =
    let one = part_exchanged r s.exchanged s.first in
    let two = part_calmed s.exchanged s.calmed s.calms in
    let three = part_exchanged s.calmed after s.second in
    let calmed_going = not_full s.calmed after three going in
    let exchanged_going = not_full s.exchanged s.calmed two calmed_going in
    let spread = spread_all r s.exchanged lawful s.first exchanged_going in
    let exchanged_lawful = one.lawful lawful in
    let calmed_lawful = two.lawful exchanged_lawful in
    let again = spread_all s.calmed after calmed_lawful s.second going in
    record {
      same = same_after s.calmed after again;
      watched = still_watched s.calmed after again
          (watch_calmed s.exchanged s.calmed exchanged_lawful (same_after r s.exchanged spread) s.calms calmed_going);
      lawful = three.lawful calmed_lawful;
    }

-- no step of the settling answers a request
done_seat : (w : WorldParts) (i : ℕ) (seat : SeatParts) (seen : List Tx) → slice_get w.seats i ≡ Some seat →
    HasNoneLeft w → HasNoneLeft (with_seat w i (seat_with seat seen seat.outcomes))
done_seat w i seat seen at done_ = record {
  each = λ j one there. elim (set_cases w.seats i (seat_with seat seen seat.outcomes) j one there) [
    | inr old ↦ done_.each j one old
    | inl here ↦ subst (λ (s : SeatParts). length s.requests ≤ length s.outcomes) here.1 (done_.each i seat at)
  ];
}

-- the sessions of another world are the same
done_seats : (w after : WorldParts) → after.seats ≡ w.seats → HasNoneLeft w → HasNoneLeft after
done_seats w after same done_ = record {
  each = λ i seat at. done_.each i seat (sym (ap (λ (seats : List SeatParts). slice_get seats i) same) ∙ at);
}

done_act : (w : WorldParts) (i : ℕ) (after : WorldParts) → IsAct w i after → HasNoneLeft w → HasNoneLeft after
done_act w i after (drops d) done_ = done_seats
    (with_seat w i (seat_with d.actor.seat (d.actor.seat.seen ++ d.tx ∷ []) d.actor.seat.outcomes)) after
    (ap (λ (v : WorldParts). v.seats) d.after_is)
    (done_seat w i d.actor.seat (d.actor.seat.seen ++ d.tx ∷ []) d.is_actor.seat_at done_)
done_act w i after (answers a) done_ =
    let few = done_.each i a.actor.seat a.is_actor.seat_at in
    let inside = slice_get_within a.actor.seat.requests (length a.actor.seat.outcomes) a.request a.next in
    absurd (omega (arith, few, inside))
done_act w i after (rests s) done_ = subst HasNoneLeft (sym s.after_is) done_

done_pull : (w : WorldParts) (i : ℕ) (after : WorldParts) → IsPulled w i after → HasNoneLeft w → HasNoneLeft after
done_pull w i after p done_ = subst HasNoneLeft (sym p.after_is)
    (done_seat w i p.actor.seat (p.actor.seat.seen ++ news_of p.actor.log p.actor.seat.seen) p.is_actor.seat_at done_)

done_moved_act : (r : RunParts) (i : ℕ) (after : RunParts) → IsMoved r (Act i) after → HasNoneLeft r.world → HasNoneLeft after.world
done_moved_act r i after (goes g) done_ = subst (λ (s : RunParts). HasNoneLeft s.world) (sym g.after_is)
    (done_act r.world i g.next g.step_is done_)
done_moved_act r i after (fills f) done_ = subst (λ (s : RunParts). HasNoneLeft s.world) (sym f.after_is) done_
done_moved_act r i after (stopped s) done_ = subst (λ (q : RunParts). HasNoneLeft q.world) (sym s.after_is) done_

done_moved_pull : (r : RunParts) (i : ℕ) (after : RunParts) → IsMoved r (Pull i) after → HasNoneLeft r.world →
    HasNoneLeft after.world
done_moved_pull r i after (goes g) done_ = subst (λ (s : RunParts). HasNoneLeft s.world) (sym g.after_is)
    (done_pull r.world i g.next g.step_is done_)
done_moved_pull r i after (fills f) done_ = absurd f.full
done_moved_pull r i after (stopped s) done_ = subst (λ (q : RunParts). HasNoneLeft q.world) (sym s.after_is) done_

done_dropping : (r : RunParts) (i : ℕ) (after : RunParts) → IsDropping r i after → HasNoneLeft r.world → HasNoneLeft after.world
done_dropping r i after (done _ _ _ d) done_ = subst (λ (s : RunParts). HasNoneLeft s.world) (sym d.after_is) done_
done_dropping r i after (falls _ _ next _ on due moved rest) done_ =
    done_dropping next i after rest (done_moved_act r i next moved done_)
done_dropping r i after (ceased _ _ _ s) done_ = subst (λ (q : RunParts). HasNoneLeft q.world) (sym s.after_is) done_

done_calmed : (r after : RunParts) → IsCalmed r after → HasNoneLeft r.world → HasNoneLeft after.world
done_calmed r after (first some c) done_ =
    done_dropping c.pulled 0 after c.drops (done_moved_pull r 0 c.pulled c.pull done_)
done_calmed r after (nobody none same) done_ = subst (λ (s : RunParts). HasNoneLeft s.world) (sym same) done_

-- where no request is left, none is after the settling
pub done_settled : (r after : RunParts) → IsLawful r.world → IsSettled r after → after.full ≡ false → HasNoneLeft r.world →
    HasNoneLeft after.world
done_settled r after lawful s going done_ =
    let two = part_calmed s.exchanged s.calmed s.calms in
    let calmed_going = not_full s.calmed after (part_exchanged s.calmed after s.second) going in
    let one = spread_all r s.exchanged lawful s.first (not_full s.exchanged s.calmed two calmed_going) in
    let again = spread_all s.calmed after (two.lawful (one.part.lawful lawful)) s.second going in
    done_seats s.calmed.world after.world again.out.seats
    (done_calmed s.exchanged s.calmed s.calms (done_seats r.world s.exchanged.world one.out.seats done_))
