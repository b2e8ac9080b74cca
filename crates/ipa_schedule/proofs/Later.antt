-- What steps keep and what they let grow.
--
--   later_same, later_along     no step, and one part after the other
--   later_step, later_given     the steps of a world
use Rattle.std.proofs.Common.{◌≡◌, ℕ, List, [], ◌∷◌, ◌++◌, length, map, Some, slice_get, refl, sym, ◌∙◌, ap, subst, inl, inr}
use Rattle.std.specs.Prelude.{slice_set}
use Rattle.std.proofs.lemmas.Bool.{cases_eq}
use Rattle.std.proofs.lemmas.List.{length-set}
use Rattle.std.proofs.lemmas.Option.{get_or_from_slice_get}
use Rattle.std.proofs.Math.Seq.{map-set_same}
use Rattle.ipa_clock.specs.declared.cut.Cut.{Cut}
use Rattle.ipa_logic.specs.declared.facts.Request.{Request}
use Rattle.ipa_history.specs.Histories.{IsMember}
use Rattle.ipa_history.specs.MemberLaws.{member-append_left}
use Rattle.ipa_history.specs.declared.history.Tx.{Tx}
use Rattle.ipa_history.specs.declared.outcomes.Outcome.{Outcome}
use Rattle.ipa_gate.specs.Settings.{SettingParts}
use Rattle.ipa_world.specs.Worlds.{SeatParts, WorldParts, seat_with, with_seat, with_log, with_peer}
use Rattle.ipa_world.specs.Steps.{Actor, with_made, IsPulled, IsAct, IsGiven, IsStep}
use Rattle.ipa_world.specs.declared.steps.Step.{Step}
use Rattle.ipa_world.specs.declared.steps.Step.TheVariants.{Pull, Act, Deliver, Heard}
use Rattle.ipa_schedule.specs.Running.{HasEntry, IsLater}
use Rattle.ipa_schedule.proofs.Places.{set_here, set_there}

-- no step
pub later_itself : (w : WorldParts) → IsLater w w
later_itself w = record {
  setting = refl;
  replicas = refl;
  senders = refl;
  sessions = refl;
  requests = refl;
  entries = λ r t has. has;
}

pub later_same : (w after : WorldParts) → after ≡ w → IsLater w after
later_same w after same = subst (λ (v : WorldParts). IsLater w v) (sym same) (later_itself w)

pub later_along : (u v w : WorldParts) → IsLater u v → IsLater v w → IsLater u w
later_along u v w one two = record {
  setting = two.setting ∙ one.setting;
  replicas = two.replicas ∙ one.replicas;
  senders = two.senders ∙ one.senders;
  sessions = two.sessions ∙ one.sessions;
  requests = two.requests ∙ one.requests;
  entries = λ r t has. two.entries r t (one.entries r t has);
}

-- a log with more at its end
pub later_log : (w : WorldParts) (r : ℕ) (log more : List Tx) → slice_get w.logs r ≡ Some log →
    IsLater w (with_log w r (log ++ more))
later_log w r log more at = record {
  setting = refl;
  replicas = length-set w.logs r (log ++ more);
  senders = refl;
  sessions = refl;
  requests = refl;
  entries = λ q t has. elim (cases_eq q r) [
    | inl same ↦
        let both : Some has.log ≡ Some log = sym has.log_at ∙ (ap (slice_get w.logs) same ∙ at) in
        let one : has.log ≡ log = cc in
        record {
          log = log ++ more;
          log_at = ap (slice_get (slice_set w.logs r (log ++ more))) same ∙ set_here w.logs r log (log ++ more) at;
          member = member-append_left log more t (subst (λ (h : List Tx). IsMember h t) one has.member);
        }
    | inr other ↦ record {
      log = has.log;
      log_at = set_there w.logs r q (log ++ more) has.log other has.log_at;
      member = has.member;
    }
  ];
}

-- a session that has seen more, or was answered more
pub later_seat : (w : WorldParts) (i : ℕ) (seat : SeatParts) (seen : List Tx) (outcomes : List Outcome) →
    slice_get w.seats i ≡ Some seat → IsLater w (with_seat w i (seat_with seat seen outcomes))
later_seat w i seat seen outcomes at = record {
  setting = refl;
  replicas = refl;
  senders = refl;
  sessions = length-set w.seats i (seat_with seat seen outcomes);
  requests = map-set_same (λ (one : SeatParts). one.requests) w.seats i (seat_with seat seen outcomes) seat
      (ap (λ (one : SeatParts). one.requests) (sym (get_or_from_slice_get w.seats i seat seat at)));
  entries = λ r t has. record { log = has.log; log_at = has.log_at; member = has.member };
}

later_peer : (w : WorldParts) (link : ℕ) (known : Cut) → IsLater w (with_peer w link known)
later_peer w link known = record {
  setting = refl;
  replicas = refl;
  senders = length-set w.peers link known;
  sessions = refl;
  requests = refl;
  entries = λ r t has. record { log = has.log; log_at = has.log_at; member = has.member };
}

later_made : (w : WorldParts) (i : ℕ) (a : Actor) (made : List Tx) (outcomes : List Outcome) →
    slice_get w.seats i ≡ Some a.seat → slice_get w.logs a.seat.replica ≡ Some a.log →
    IsLater w (with_made w i a made outcomes)
later_made w i a made outcomes seat_at log_at =
    later_along w (with_seat w i (seat_with a.seat (a.seat.seen ++ made) outcomes)) (with_made w i a made outcomes)
    (later_seat w i a.seat (a.seat.seen ++ made) outcomes seat_at)
    (later_log (with_seat w i (seat_with a.seat (a.seat.seen ++ made) outcomes)) a.seat.replica a.log made log_at)

later_onto : (w next after : WorldParts) → IsLater w next → after ≡ next → IsLater w after
later_onto w next after later same = subst (λ (v : WorldParts). IsLater w v) (sym same) later

later_act : (w : WorldParts) (i : ℕ) (after : WorldParts) → IsAct w i after → IsLater w after
later_act w i after (IsAct.drops d) =
    later_onto w _ after (later_made w i d.actor (d.tx ∷ []) d.actor.seat.outcomes d.is_actor.seat_at d.is_actor.log_at)
    d.after_is
later_act w i after (IsAct.answers a) = later_onto w _ after
    (later_made w i a.actor _ (a.actor.seat.outcomes ++ a.outcome ∷ []) a.is_actor.seat_at a.is_actor.log_at) a.after_is
later_act w i after (IsAct.rests r) = later_same w after r.after_is

pub later_given : (w : WorldParts) (r : ℕ) (t : Tx) (after : WorldParts) → IsGiven w r t after → IsLater w after
later_given w r t after (IsGiven.takes k) =
    later_onto w (with_log w r (k.log ++ t ∷ [])) after (later_log w r k.log (t ∷ []) k.log_at) k.after_is
later_given w r t after (IsGiven.leaves k) = later_same w after k.after_is

pub later_step : (w : WorldParts) (step : Step) (after : WorldParts) → IsStep w step after → IsLater w after
later_step w (Pull i) after p = later_onto w _ after
    (later_seat w i p.actor.seat _ p.actor.seat.outcomes p.is_actor.seat_at) p.after_is
later_step w (Act i) after a = later_act w i after a
later_step w (Deliver from to place) after d = later_given w to d.tx after d.given
later_step w (Heard from to clock) after h = later_onto w _ after (later_peer w _ _) h.after_is
