-- The facts that are true where all of a history is known.
--
--   no_tx            what a walk along a history has past its end
--   history-take     the front of a history is one
--   outcomes_told    what the sessions were answered, by their parts of the world's value
--   if_ok            what follows of a value that was answered
use Rattle.std.proofs.Common.{◌≡◌, ℕ, suc, zero, ◌+◌, ◌<◌, ◌≤◌, List, [], ◌∷◌, length, map, take, slice_get, Some, None, Ok, Err, refl, sym, ◌∙◌, ap, subst, arith}
use Rattle.std.specs.Prelude.{Result, IfOk}
use Rattle.ipa_spec.specs.declared.operations.Action.TheVariants.{Op}
use Rattle.ipa_history.specs.Histories.{IsHistory, StandsIn, number_of}
use Rattle.ipa_history.specs.HistoryLaws.{member-take}
use Rattle.ipa_history.specs.declared.history.Tx.{Tx}
use Rattle.ipa_history.specs.declared.outcomes.Outcome.{Outcome}
use Rattle.ipa_world.specs.Worlds.{SeatParts}
use Rattle.ipa_world.specs.Seats.{seat_parts}
use Rattle.ipa_world.specs.declared.seats.Seat.{Seat}

-- what a walk along a history has past its end
abbrev pub no_tx : Tx
no_tx = record {
  dot = record { origin = 0; number = 0 };
  cut = record { counts = [] };
  action = Op 0;
  args = [];
  count = 0;
}

-- what stands in a front
front_at : (k : ℕ) (h : List Tx) (j : ℕ) (t : Tx) → slice_get (take k h) j ≡ Some t → (j < k) × (slice_get h j ≡ Some t)
front_at zero h j t e = absurd (let none : None ≡ Some t = e in cc)
front_at (suc k) [] j t e = absurd (let none : None ≡ Some t = e in cc)
front_at (suc k) (x ∷ xs) zero t e = (omega arith, e)
front_at (suc k) (x ∷ xs) (suc j) t e = let rest = front_at k xs j t e in (omega (arith, rest.0), rest.1)

-- a front of a front
take_front : (j k : ℕ) (h : List Tx) → j < k → take j (take k h) ≡ take j h
take_front zero k h l = refl
take_front (suc j) zero h l = absurd (omega arith)
take_front (suc j) (suc k) [] l = refl
take_front (suc j) (suc k) (x ∷ xs) l = ap (λ (ys : List Tx). x ∷ ys) (take_front j k xs (omega arith))

short : (k : ℕ) (h : List Tx) → length (take k h) ≤ length h
short zero h = omega arith
short (suc k) [] = omega arith
short (suc k) (x ∷ xs) = let rest = short k xs in omega (arith, rest)

-- the front of a history is one
pub history-take : (k : ℕ) (h : List Tx) → IsHistory h → IsHistory (take k h)
history-take k h is = record {
  few = let few = is.few in let size = short k h in omega (arith, few, size);
  origins = λ t m. is.origins t (member-take k h t m);
  numbers = λ j t e.
      let at = front_at k h j t e in
      is.numbers j t at.1 ∙ ap (λ (xs : List Tx). number_of t.dot.origin xs + 1) (sym (take_front j k h at.0));
  own = λ t m. is.own t (member-take k h t m);
  seen = λ j t d e some covers.
      let at = front_at k h j t e in
      subst (λ (xs : List Tx). StandsIn xs d t.cut) (sym (take_front j k h at.0)) (is.seen j t d at.1 some covers);
}

-- what follows of a value that was answered
pub if_ok : {T E : Type 0} (r : Result T E) {P Q : T → Type 0} → IfOk r P → ((x : T) → P x → Q x) → IfOk r Q
if_ok (Ok x) p f = f x p
if_ok (Err e) p f = tt

-- what the sessions were answered, by their parts of the world's value
pub outcomes_told : (seats : List Seat) →
    map (λ (x : SeatParts). x.outcomes) (map seat_parts seats) ≡ map (λ (x : Seat). x.outcomes) seats
outcomes_told [] = refl
outcomes_told (seat ∷ rest) = ap (λ (xs : List (List Outcome)). seat.outcomes ∷ xs) (outcomes_told rest)
