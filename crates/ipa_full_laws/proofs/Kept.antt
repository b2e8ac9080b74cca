-- What the steps of a world keep.
--
--   IsKept w after     the same setting, and the same requests
--   run-kept           after any steps
--   first-requests     the requests of a setup's world are those of its work
use Rattle.std.proofs.Common.{◌≡◌, ℕ, List, [], ◌∷◌, ◌++◌, map, Some, slice_get, refl, sym, ◌∙◌, ap, subst}
use Rattle.std.proofs.lemmas.Option.{get_or_from_slice_get}
use Rattle.std.proofs.Math.Seq.{map-set_same}
use Rattle.ipa_logic.specs.declared.facts.Request.{Request}
use Rattle.ipa_history.specs.declared.history.Tx.{Tx}
use Rattle.ipa_history.specs.declared.outcomes.Outcome.{Outcome}
use Rattle.ipa_reader.specs.declared.sessions.SessionWork.{SessionWork}
use Rattle.ipa_world.specs.Worlds.{SeatParts, WorldParts, seat_of, seat_with, with_seat}
use Rattle.ipa_world.specs.Steps.{Actor, IsActor, with_made, IsAct, IsGiven, IsStep, IsRun}
use Rattle.ipa_world.specs.Steps.IsAct.{drops, answers, rests}
use Rattle.ipa_world.specs.Steps.IsGiven.{takes, leaves}
use Rattle.ipa_world.specs.declared.steps.Step.{Step}
use Rattle.ipa_world.specs.declared.steps.Step.TheVariants.{Pull, Act, Deliver, Heard}
use Rattle.ipa_schedule.specs.Running.{requests_of}

-- the same setting, and the same requests
pub record IsKept (w after : WorldParts) : Type 0 where
  pub setting : after.setting ≡ w.setting
  pub requests : requests_of after ≡ requests_of w

kept_same : (w after : WorldParts) → after ≡ w → IsKept w after
kept_same w after same = record {
  setting = ap (λ (v : WorldParts). v.setting) same;
  requests = ap requests_of same;
}

-- what is equal to a later world
kept_onto : (w next after : WorldParts) → IsKept w next → after ≡ next → IsKept w after
kept_onto w next after kept same = subst (λ (v : WorldParts). IsKept w v) (sym same) kept

kept_along : (u v w : WorldParts) → IsKept u v → IsKept v w → IsKept u w
kept_along u v w one two = record {
  setting = two.setting ∙ one.setting;
  requests = two.requests ∙ one.requests;
}

-- where a session has seen more, or was answered more
kept_seat : (w : WorldParts) (i : ℕ) (seat : SeatParts) (seen : List Tx) (outcomes : List Outcome) →
    slice_get w.seats i ≡ Some seat → IsKept w (with_seat w i (seat_with seat seen outcomes))
kept_seat w i seat seen outcomes at = record {
  setting = refl;
  requests = map-set_same (λ (one : SeatParts). one.requests) w.seats i (seat_with seat seen outcomes) seat
      (ap (λ (one : SeatParts). one.requests) (sym (get_or_from_slice_get w.seats i seat seat at)));
}

kept_made : (w : WorldParts) (i : ℕ) (a : Actor) → IsActor w i a → (made : List Tx) (outcomes : List Outcome) →
    IsKept w (with_made w i a made outcomes)
kept_made w i a actor made outcomes =
    let seat = kept_seat w i a.seat (a.seat.seen ++ made) outcomes actor.seat_at in
    record { setting = seat.setting; requests = seat.requests }

-- a step
step_kept : (w : WorldParts) (step : Step) (after : WorldParts) → IsStep w step after → IsKept w after
step_kept w (Pull i) after p =
    kept_onto w _ after (kept_seat w i p.actor.seat _ p.actor.seat.outcomes p.is_actor.seat_at) p.after_is
step_kept w (Act i) after act = acted act
  where
    acted : IsAct w i after → IsKept w after
    acted (drops d) =
        kept_onto w _ after (kept_made w i d.actor d.is_actor (d.tx ∷ []) d.actor.seat.outcomes) d.after_is
    acted (answers a) =
        kept_onto w _ after (kept_made w i a.actor a.is_actor _ (a.actor.seat.outcomes ++ a.outcome ∷ [])) a.after_is
    acted (rests r) = kept_same w after r.after_is
step_kept w (Deliver from to place) after d = given d.given
  where
    given : IsGiven w to d.tx after → IsKept w after
    given (takes g) = record {
      setting = ap (λ (v : WorldParts). v.setting) g.after_is;
      requests = ap requests_of g.after_is;
    }
    given (leaves g) = kept_same w after g.after_is
step_kept w (Heard from to clock) after h = record {
  setting = ap (λ (v : WorldParts). v.setting) h.after_is;
  requests = ap requests_of h.after_is;
}

-- any steps
pub run-kept : (w : WorldParts) (steps : List Step) (after : WorldParts) → IsRun w steps after → IsKept w after
run-kept w [] after same = kept_same w after same
run-kept w (step ∷ steps) after (next, of, is, rest) =
    kept_along w next after (step_kept w step next is) (run-kept next steps after rest)

-- the requests of a setup's world are those of its work
pub first-requests : (works : List SessionWork) →
    map (λ (seat : SeatParts). seat.requests) (map seat_of works) ≡ map (λ (work : SessionWork). work.requests) works
first-requests [] = refl
first-requests (work ∷ works) = ap (λ (rest : List (List Request)). work.requests ∷ rest) (first-requests works)
