-- What a step leaves of a lawful world.
--
--   changed w logs seats peers    the world with other logs, sessions and senders
--   one_entry              the sessions have no two transactions under one dot
--   put_there, put_cases, put_had, put_same     a list with one item replaced
--   HasLog, HasSeat        a replica's log, or what a session has seen, has all of this
--   IsGrown                each log and each session of a world has what it had before
--   known-grown, seen-grown, answered-still     what holds then
--   outcome-grown, behind-grown     an outcome, where a session has seen more
use Rattle.std.proofs.Common.{◌≡◌, ℕ, zero, suc, ◌≤◌, List, [], ◌∷◌, Some, None, slice_get, refl, sym, ◌∙◌, ap, subst, arith, ◌⊎◌, inl, inr}
use Rattle.std.specs.Prelude.{slice_set}
use Rattle.ipa_clock.specs.declared.cut.Cut.{Cut}
use Rattle.ipa_clock.specs.Cut.{count_of, IsBelow}
use Rattle.ipa_logic.specs.declared.facts.Request.{Request}
use Rattle.ipa_history.specs.Histories.{IsMember, IsHistory}
use Rattle.ipa_history.specs.HistoryLaws.{one_named}
use Rattle.ipa_history.specs.Clocks.{IsClockOf}
use Rattle.ipa_history.specs.declared.history.Tx.{Tx}
use Rattle.ipa_history.specs.declared.outcomes.Outcome.{Outcome}
use Rattle.ipa_gate.specs.Agreements.{HasAll}
use Rattle.ipa_world.specs.Worlds.{SeatParts, WorldParts}
use Rattle.ipa_world.specs.Lawful.{IsKnownBy, HasSeen, IsOutcomeOf, IsBehind, HasAnswered, IsLawful}
use Rattle.ipa_world.specs.HistoryParts.{more_counted, part-reading, part-answer, part-entered}

-- the world with other logs, sessions and senders
abbrev pub changed : WorldParts → List (List Tx) → List SeatParts → List Cut → WorldParts
changed w logs seats peers = record { setting = w.setting; logs = logs; seats = seats; peers = peers }

-- what two sessions know of under one dot is the same transaction
pub one_entry : (w : WorldParts) → IsLawful w → (t u : Tx) → IsKnownBy w t → IsKnownBy w u → t.dot ≡ u.dot → t ≡ u
one_entry w is t u known other same =
    let place : slice_get w.seats u.dot.origin ≡ Some known.seat =
    subst (λ (d : _). slice_get w.seats d.origin ≡ Some known.seat) same known.seat_at in
    let both : Some known.seat ≡ Some other.seat = sym place ∙ other.seat_at in
    let seat : known.seat ≡ other.seat = cc in
    let has = is.seen u.dot.origin other.seat other.seat_at in
    one_named other.seat.seen has.session.legal.history t u
    (subst (λ (x : SeatParts). IsMember x.seen t) seat known.seen) other.seen same

-- the item that replaces another stands there
pub put_there : {X : Type 0} (xs : List X) (i : ℕ) (x y : X) → slice_get xs i ≡ Some y →
    slice_get (slice_set xs i x) i ≡ Some x
put_there [] i x y e = absurd (let none : None ≡ Some y = e in cc)
put_there (z ∷ zs) zero x y e = refl
put_there (z ∷ zs) (suc i) x y e = put_there zs i x y e

-- what stands in a list after one item is replaced
pub put_cases : {X : Type 0} (xs : List X) (i : ℕ) (x : X) (k : ℕ) (z : X) → slice_get (slice_set xs i x) k ≡ Some z →
    ((k ≡ i) × (x ≡ z)) ⊎ (slice_get xs k ≡ Some z)
put_cases [] i x k z e = inr e
put_cases (y ∷ ys) zero x zero z e = inl (refl, (let s : Some x ≡ Some z = e in cc))
put_cases (y ∷ ys) zero x (suc k) z e = inr e
put_cases (y ∷ ys) (suc i) x zero z e = inr e
put_cases (y ∷ ys) (suc i) x (suc k) z e = elim (put_cases ys i x k z e) [
  | inl here ↦ inl (ap suc here.0, here.1)
  | inr there ↦ inr there
]

-- where an item stood, one stands after another was replaced: the same, or the new one in its place
pub put_had : {X : Type 0} (xs : List X) (i : ℕ) (x : X) (k : ℕ) (z : X) → slice_get xs k ≡ Some z →
    ((k ≡ i) × (slice_get (slice_set xs i x) k ≡ Some x)) ⊎ (slice_get (slice_set xs i x) k ≡ Some z)
put_had [] i x k z e = inr e
put_had (y ∷ ys) zero x zero z e = inl (refl, refl)
put_had (y ∷ ys) zero x (suc k) z e = inr e
put_had (y ∷ ys) (suc i) x zero z e = inr e
put_had (y ∷ ys) (suc i) x (suc k) z e = elim (put_had ys i x k z e) [
  | inl here ↦ inl (ap suc here.0, here.1)
  | inr there ↦ inr there
]

-- an item that is replaced by itself
pub put_same : {X : Type 0} (xs : List X) (i : ℕ) (x : X) → slice_get xs i ≡ Some x → slice_set xs i x ≡ xs
put_same [] i x e = refl
put_same (y ∷ ys) zero x e = let s : Some y ≡ Some x = e in let t : x ≡ y = cc in ap (λ (z : _). z ∷ ys) t
put_same (y ∷ ys) (suc i) x e = ap (λ (zs : List _). y ∷ zs) (put_same ys i x e)

-- the log of this replica has all of these
pub record HasLog (logs : List (List Tx)) (r : ℕ) (had : List Tx) : Type 0 where
  pub log : List Tx
  pub log_at : slice_get logs r ≡ Some log
  pub all : HasAll log had

-- this session has seen all of these
pub record HasSeat (seats : List SeatParts) (i : ℕ) (had : List Tx) : Type 0 where
  pub seat : SeatParts
  pub seat_at : slice_get seats i ≡ Some seat
  pub all : HasAll seat.seen had

-- each log and each session has what it had before
pub record IsGrown (w : WorldParts) (logs : List (List Tx)) (seats : List SeatParts) : Type 0 where
  pub grown_logs : (r : ℕ) (log : List Tx) → slice_get w.logs r ≡ Some log → HasLog logs r log
  pub grown_seats : (i : ℕ) (seat : SeatParts) → slice_get w.seats i ≡ Some seat → HasSeat seats i seat.seen

module _ (w : WorldParts) (logs : List (List Tx)) (seats : List SeatParts) (peers : List Cut) where
  -- a transaction that a session knew of is known
  pub known-grown : IsGrown w logs seats → (t : Tx) → IsKnownBy w t → IsKnownBy (changed w logs seats peers) t
  known-grown grown t known =
      let now = grown.grown_seats t.dot.origin known.seat known.seat_at in record {
        seat = now.seat;
        seat_at = now.seat_at;
        seen = now.all.each t known.seen;
      }

  -- what a session that has seen no more has seen
  pub seen-grown : IsGrown w logs seats → (i : ℕ) (seat : SeatParts) → HasSeen w i seat →
      HasSeen (changed w logs seats peers) i seat
  seen-grown grown i seat has =
      let now = grown.grown_logs seat.replica has.log has.log_at in record {
        session = has.session;
        log = now.log;
        log_at = now.log_at;
        lies = λ t m. now.all.each t (has.lies t m);
        made = λ t m. known-grown grown t (has.made t m);
      }

  -- an outcome of such a session
  outcome-still : (i : ℕ) (seat : SeatParts) (request : Request) (o : Outcome) → IsOutcomeOf w i seat request o →
      IsOutcomeOf (changed w logs seats peers) i seat request o
  outcome-still i seat request o is = record { reading = is.reading; answer = is.answer; entered = is.entered }

  -- and all its outcomes
  pub answered-still : (i : ℕ) (seat : SeatParts) → HasAnswered w i seat →
      HasAnswered (changed w logs seats peers) i seat
  answered-still i seat has = record {
    few = has.few;
    fit = has.fit;
    outcomes = λ place request o asked answered.
        outcome-still i seat request o (has.outcomes place request o asked answered);
    behind = has.behind;
    past = has.past;
    committed = has.committed;
  }

module _ (w : WorldParts) (i : ℕ) (seat later : SeatParts) (known : IsHistory seat.seen) (is : IsHistory later.seen)
    (all : HasAll later.seen seat.seen) where
  -- an outcome of a session is one where it has seen more
  pub outcome-grown : (request : Request) (o : Outcome) → IsOutcomeOf w i seat request o →
      IsOutcomeOf w i later request o
  outcome-grown request o has = record {
    reading = part-reading seat.seen later.seen known is all o.cut has.reading.closed w.setting.spec w.setting.base
        has.reading;
    answer = part-answer seat.seen later.seen known is all o.cut has.reading.closed w.setting.spec w.setting.universe
        w.setting.base i request o.answer has.answer;
    entered = part-entered seat.seen later.seen all i o.cut request o.answer has.entered;
  }

  module _ (c : Cut) (clock : IsClockOf seat.seen c) where
    -- the cut of all that it had seen is below that of all that it has seen
    pub clock-grown : (d : Cut) → IsClockOf later.seen d → IsBelow c d
    clock-grown d next = record {
      counts = λ o.
          let low = clock.counts o in
          let high = next.counts o in
          let more = more_counted seat.seen later.seen known is all o in
          omega (arith, low, high, more);
    }

    -- and an outcome is behind that too
    pub behind-grown : (o : Outcome) → IsBehind i seat.seen o → IsBehind i later.seen o
    behind-grown o behind = record {
      cut = λ d next. record {
        counts = λ origin.
            let low = (behind.cut c clock).counts origin in
            let high = (clock-grown d next).counts origin in
            omega (arith, low, high);
      };
      commit = λ d number next commits.
          let low : number ≤ count_of c i = behind.commit c number clock commits in
          let high = (clock-grown d next).counts i in
          omega (arith, low, high);
    }
