-- What the sessions of a world have to ask.
--
--   most_more            the greatest number of requests, with one session more
--   IsDoneTo w i         the first sessions have no request left
--   done_more, one_left  nor has the next one; or it has
use Rattle.std.proofs.Common.{◌≡◌, ℕ, zero, suc, ◌+◌, ◌<◌, ◌≤◌, ◌⊎◌, inl, inr, List, [], ◌∷◌, ◌++◌, length, take, fold, Option, Some, None, slice_get, refl, sym, ◌∙◌, ap, subst, arith}
use Rattle.std.specs.Prelude.{max}
use Rattle.std.specs.Option.{option_map}
use Rattle.std.proofs.lemmas.Bool.{cases_lt}
use Rattle.std.proofs.lemmas.List.Sums.{fold-append}
use Rattle.std.proofs.lemmas.Option.{slice_get_within}
use Rattle.ipa_logic.specs.VariableLaws.{slice_get_none}
use Rattle.ipa_logic.specs.declared.facts.Request.{Request}
use Rattle.ipa_history.specs.PushLaws.{at_place}
use Rattle.ipa_world.specs.Worlds.{SeatParts, WorldParts, next_request}
use Rattle.ipa_world.specs.Lawful.{HasNoneLeft}
use Rattle.ipa_schedule.specs.Plans.{HasOneLeft}
use Rattle.ipa_schedule.proofs.Giving.{take_next}

-- the greatest number of requests, with one session more
pub most_more : (seats : List SeatParts) (i : ℕ) (requests : List Request) → i < length seats →
    option_map (λ (seat : SeatParts). seat.requests) (slice_get seats i) ≡ Some requests →
    fold (λ (n : ℕ) (seat : SeatParts). max n (length seat.requests)) 0 (take (i + 1) seats)
    ≡ max (fold (λ (n : ℕ) (seat : SeatParts). max n (length seat.requests)) 0 (take i seats)) (length requests)
most_more seats i requests there at =
    let one = at_place seats i there in
    let both : Some one.0.requests ≡ Some requests =
    sym (ap (option_map (λ (seat : SeatParts). seat.requests)) one.1) ∙ at in
    let same : one.0.requests ≡ requests = cc in
    ap (fold (λ (n : ℕ) (seat : SeatParts). max n (length seat.requests)) 0) (take_next seats i one.0 one.1)
    ∙ fold-append (λ (n : ℕ) (seat : SeatParts). max n (length seat.requests)) 0 (take i seats) (one.0 ∷ [])
    ∙ ap (λ (rs : List Request).
    max (fold (λ (n : ℕ) (seat : SeatParts). max n (length seat.requests)) 0 (take i seats)) (length rs)) same

-- the first sessions have no request left
pub record IsDoneTo (w : WorldParts) (i : ℕ) : Type 0 where
  pub each : (j : ℕ) (seat : SeatParts) → j < i → slice_get w.seats j ≡ Some seat →
      length seat.requests ≤ length seat.outcomes

pub done_none : (w : WorldParts) → IsDoneTo w 0
done_none w = record { each = λ j seat low at. absurd (omega (arith, low)) }

-- nor has the next one
pub done_more : (w : WorldParts) (i : ℕ) →
    ((seat : SeatParts) → slice_get w.seats i ≡ Some seat → None ≡ next_request seat) → IsDoneTo w i → IsDoneTo w (i + 1)
done_more w i none done = record {
  each = λ j seat low at. elim (cases_lt j i) [
    | inl before ↦ done.each j seat before at
    | inr last ↦
        let same : j ≡ i = omega (arith, low, last) in
        slice_get_none seat.requests (length seat.outcomes) (sym (none seat (ap (slice_get w.seats) (sym same) ∙ at)))
  ];
}

pub done_all : (w : WorldParts) (i : ℕ) → length w.seats ≤ i → IsDoneTo w i → HasNoneLeft w
done_all w i all done = record {
  each = λ j seat at. let inside = slice_get_within w.seats j seat at in done.each j seat (omega (arith, all, inside)) at;
}

-- or it has
pub one_left : (w : WorldParts) (i : ℕ) (request : Request) → i < length w.seats →
    ((seat : SeatParts) → slice_get w.seats i ≡ Some seat → Some request ≡ next_request seat) → HasOneLeft w
one_left w i request there next =
    let one = at_place w.seats i there in
    record {
      session = i;
      seat = one.0;
      seat_at = one.1;
      asks = slice_get_within one.0.requests (length one.0.outcomes) request (sym (next one.0 one.1));
    }
