-- A lawful world in which one session has seen more, and its replica's log has more.
--
--   IsExtended w i a seen outcomes log     what holds of the session and of the log then
--   extended-lawful        the world is lawful
--   answered-grown         a session that has seen more, and made no operation, has answered what it had
use Rattle.std.proofs.Common.{◌≡◌, ℕ, List, Some, slice_get, sym, ◌∙◌, ap, subst, arith, ◌⊎◌, inl, inr}
use Rattle.std.specs.Prelude.{slice_set}
use Rattle.std.proofs.lemmas.List.{length-set}
use Rattle.ipa_spec.specs.declared.operations.Action.TheVariants.{Op}
use Rattle.ipa_history.specs.Histories.{IsMember, IsHistory}
use Rattle.ipa_history.specs.declared.history.Tx.{Tx}
use Rattle.ipa_history.specs.declared.outcomes.Outcome.{Outcome}
use Rattle.ipa_gate.specs.Agreements.{HasAll}
use Rattle.ipa_gate.specs.Logs.{IsLog}
use Rattle.ipa_session.specs.Sessions.{IsSession}
use Rattle.ipa_world.specs.Worlds.{SeatParts, WorldParts, session_at, seat_with, with_seat, with_log}
use Rattle.ipa_world.specs.Steps.{Actor, IsActor}
use Rattle.ipa_world.specs.Lawful.{IsKnownBy, AreLogs, HasSeen, IsCommittedBy, HasAnswered, IsLawful}
use Rattle.ipa_world.specs.LawfulMoves.{HasLog, HasSeat, IsGrown, put_there, put_cases, put_had, known-grown, seen-grown, answered-still, outcome-grown, behind-grown}

-- a session that has seen more, and its replica's log with more: what is new there the session made and has seen
pub record IsExtended (w : WorldParts) (i : ℕ) (a : Actor) (seen : List Tx) (outcomes : List Outcome)
    (log : List Tx) : Type 0 where
  pub is_log : IsLog w.setting log
  pub is_session : IsSession (session_at w.setting i (seat_with a.seat seen outcomes))
  pub had_seen : HasAll seen a.seat.seen
  pub had : HasAll log a.log
  pub lies : HasAll log seen
  pub new : (t : Tx) → IsMember log t → IsMember a.log t ⊎ ((t.dot.origin ≡ i) × IsMember seen t)
  pub answered : HasAnswered w i (seat_with a.seat seen outcomes)

module _ (w : WorldParts) (is : IsLawful w) (i : ℕ) (a : Actor) (actor : IsActor w i a) (seen : List Tx)
    (outcomes : List Outcome) (log : List Tx) (extended : IsExtended w i a seen outcomes log) where
  abbrev seat : SeatParts
  seat = seat_with a.seat seen outcomes

  abbrev logs : List (List Tx)
  logs = slice_set w.logs a.seat.replica log

  abbrev seats : List SeatParts
  seats = slice_set w.seats i seat

  abbrev after : WorldParts
  after = with_log (with_seat w i seat) a.seat.replica log

  log_there : slice_get logs a.seat.replica ≡ Some log
  log_there = put_there w.logs a.seat.replica log a.log actor.log_at

  seat_there : slice_get seats i ≡ Some seat
  seat_there = put_there w.seats i seat a.seat actor.seat_at

  grown_log : (r : ℕ) (one : List Tx) → slice_get w.logs r ≡ Some one → HasLog logs r one
  grown_log r one at = elim (put_had w.logs a.seat.replica log r one at) [
    | inr same ↦ record { log = one; log_at = same; all = record { each = λ t m. m } }
    | inl here ↦
        let both : Some a.log ≡ Some one = sym actor.log_at ∙ (ap (slice_get w.logs) (sym here.0) ∙ at) in
        let was : a.log ≡ one = cc in
        record { log = log; log_at = here.1; all = subst (λ (xs : List Tx). HasAll log xs) was extended.had }
  ]

  grown_seat : (k : ℕ) (one : SeatParts) → slice_get w.seats k ≡ Some one → HasSeat seats k one.seen
  grown_seat k one at = elim (put_had w.seats i seat k one at) [
    | inr same ↦ record { seat = one; seat_at = same; all = record { each = λ t m. m } }
    | inl here ↦
        let both : Some a.seat ≡ Some one = sym actor.seat_at ∙ (ap (slice_get w.seats) (sym here.0) ∙ at) in
        let was : a.seat ≡ one = cc in
        record {
          seat = seat;
          seat_at = here.1;
          all = subst (λ (x : SeatParts). HasAll seen x.seen) was extended.had_seen;
        }
  ]

  grown : IsGrown w logs seats
  grown = record { grown_logs = grown_log; grown_seats = grown_seat }

  known_still : (t : Tx) → IsKnownBy w t → IsKnownBy after t
  known_still = known-grown w logs seats w.peers grown

  -- all of the longer log is known
  known_new : (t : Tx) → IsMember log t → IsKnownBy after t
  known_new t m = elim (extended.new t m) [
    | inl old ↦ known_still t (is.logs.made a.seat.replica a.log t actor.log_at old)
    | inr own ↦ record {
      seat = seat;
      seat_at = ap (slice_get seats) own.0 ∙ seat_there;
      seen = own.1;
    }
  ]

  -- what holds of the logs
  are_logs : AreLogs after
  are_logs = record {
    few = let few = is.logs.few in omega (arith, few, length-set w.logs a.seat.replica log);
    logs = λ r one at. elim (put_cases w.logs a.seat.replica log r one at) [
      | inl here ↦ subst (λ (xs : List Tx). IsLog w.setting xs) here.1 extended.is_log
      | inr there ↦ is.logs.logs r one there
    ];
    made = λ r one t at m. elim (put_cases w.logs a.seat.replica log r one at) [
      | inl here ↦ known_new t (subst (λ (xs : List Tx). IsMember xs t) (sym here.1) m)
      | inr there ↦ known_still t (is.logs.made r one t there m)
    ];
  }

  -- what the session has seen
  seen_there : HasSeen after i seat
  seen_there = record {
    session = extended.is_session;
    log = log;
    log_at = log_there;
    lies = extended.lies.each;
    made = λ t m. known_new t (extended.lies.each t m);
  }

  answered_there : HasAnswered after i seat
  answered_there = answered-still w logs seats w.peers i seat extended.answered

  -- so the world is lawful
  pub extended-lawful : IsLawful (with_log (with_seat w i (seat_with a.seat seen outcomes)) a.seat.replica log)
  extended-lawful = record {
    setting = is.setting;
    sessions = length-set w.seats i seat ∙ is.sessions;
    senders = is.senders;
    logs = are_logs;
    seen = λ k one at. elim (put_cases w.seats i seat k one at) [
      | inl here ↦ subst (λ (j : ℕ). HasSeen after j one) (sym here.0)
          (subst (λ (x : SeatParts). HasSeen after i x) here.1 seen_there)
      | inr there ↦ seen-grown w logs seats w.peers grown k one (is.seen k one there)
    ];
    answered = λ k one at. elim (put_cases w.seats i seat k one at) [
      | inl here ↦ subst (λ (j : ℕ). HasAnswered after j one) (sym here.0)
          (subst (λ (x : SeatParts). HasAnswered after i x) here.1 answered_there)
      | inr there ↦ answered-still w logs seats w.peers k one (is.answered k one there)
    ];
  }

module _ (w : WorldParts) (is : IsLawful w) (i : ℕ) (a : Actor) (actor : IsActor w i a) (seen : List Tx)
    (history : IsHistory seen) (all : HasAll seen a.seat.seen)
    (committed : (t : Tx) (op : ℕ) → IsMember seen t → t.dot.origin ≡ i → t.action ≡ Op op →
    IsCommittedBy a.seat.outcomes t) where
  abbrev later : SeatParts
  later = seat_with a.seat seen a.seat.outcomes

  has : HasAnswered w i a.seat
  has = is.answered i a.seat actor.seat_at

  known : IsHistory a.seat.seen
  known = (is.seen i a.seat actor.seat_at).session.legal.history

  -- a session that has seen more, each new operation of its own committed, has answered what it had
  pub answered-grown : HasAnswered w i (seat_with a.seat seen a.seat.outcomes)
  answered-grown = record {
    few = has.few;
    fit = has.fit;
    outcomes = λ place request o asked said. outcome-grown w i a.seat later known history all request o
        (has.outcomes place request o asked said);
    behind = λ place o at. behind-grown w i a.seat later known history all a.cut actor.clock o (has.behind place o at);
    past = has.past;
    committed = committed;
  }
