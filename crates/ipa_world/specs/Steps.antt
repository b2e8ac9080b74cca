-- The four steps of a world. They speak of no limit: how long a log may grow is said apart, in `Room`.
--
--   IsActor w i a         a session that is to act: what it is, its replica's log, and the cut of all that it has seen
--   IsPulled w i w'       the session sees what its replica's log has beyond it
--   IsDropped w i w'      the drop that is due where the session stands is made: it is seen, and stands in the log
--   committed_of ..       the transaction that an answer commits, if it does
--   IsAnswered w i w'     no drop is due, and the session's next request is answered; what it commits stands in the log
--   IsResting w i w'      no drop is due and no request is left, and nothing changes
--   IsAct w i w'          one of the three
--   IsNews log t          a log lacks the transaction, and holds its cut
--   IsGiven w r t w'      the transaction is given to a replica, whose log takes it where it is news
--   IsDelivered, IsHeard  an entry of one log is given to another replica; a sender hears what the receiver has
--   IsStep w step w'      the world after the step
--   IsStepOf w step       the step is one of this world
--   IsRun w steps w'      the world after the steps
use Rattle.std.specs.Prelude.{◌≡◌, ℕ, ◌<◌, ◌≤◌, List, [], ◌∷◌, ◌++◌, length, slice_get, Some, None}
use Rattle.ipa_clock.specs.declared.cut.Cut.{Cut}
use Rattle.ipa_clock.specs.Cut.{count_of, joined}
use Rattle.ipa_spec.specs.declared.specification.Specification.{Specification}
use Rattle.ipa_logic.specs.declared.facts.Request.{Request}
use Rattle.ipa_logic.specs.declared.facts.Request.TheVariants.{Do, Show}
use Rattle.ipa_history.specs.Histories.{IsMember, number_of}
use Rattle.ipa_history.specs.Clocks.{IsClockOf}
use Rattle.ipa_history.specs.Answers.{next_operation, IsAnswer}
use Rattle.ipa_history.specs.declared.history.Tx.{Tx}
use Rattle.ipa_history.specs.declared.answers.Answer.{Answer}
use Rattle.ipa_history.specs.declared.answers.Answer.TheVariants.{Commit, Refused, Shown}
use Rattle.ipa_history.specs.declared.outcomes.Outcome.{Outcome}
use Rattle.ipa_gate.specs.Agreements.{news_of}
use Rattle.ipa_session.specs.Sessions.{IsCalmAt, IsDueNext}
use Rattle.ipa_world.specs.Worlds.{SeatParts, WorldParts, link_of, session_at, next_request, seat_with, with_seat, with_log, with_peer}
use Rattle.ipa_world.specs.declared.steps.Step.{Step}
use Rattle.ipa_world.specs.declared.steps.Step.TheVariants.{Pull, Act, Deliver, Heard}

-- a session, the log of its replica, and the cut of all that it has seen
pub record Actor : Type 0 where
  pub seat : SeatParts
  pub log : List Tx
  pub cut : Cut

-- this is session i of the world, with its replica's log and its cut
pub record IsActor (w : WorldParts) (i : ℕ) (a : Actor) : Type 0 where
  pub seat_at : slice_get w.seats i ≡ Some a.seat
  pub log_at : slice_get w.logs a.seat.replica ≡ Some a.log
  pub clock : IsClockOf a.seat.seen a.cut

-- the session sees what its replica's log has beyond it, in log order
pub record IsPulled (w : WorldParts) (i : ℕ) (after : WorldParts) : Type 0 where
  pub actor : Actor
  pub is_actor : IsActor w i actor
  pub after_is : after
      ≡ with_seat w i (seat_with actor.seat (actor.seat.seen ++ news_of actor.log actor.seat.seen) actor.seat.outcomes)

-- the world once the session has made these transactions, and was answered this
abbrev pub with_made : WorldParts → ℕ → Actor → List Tx → List Outcome → WorldParts
with_made w i a made outcomes =
    with_log (with_seat w i (seat_with a.seat (a.seat.seen ++ made) outcomes)) a.seat.replica (a.log ++ made)

-- the session makes the drop that is due where it stands
pub record IsDropped (w : WorldParts) (i : ℕ) (after : WorldParts) : Type 0 where
  pub actor : Actor
  pub is_actor : IsActor w i actor
  pub tx : Tx
  pub due : IsDueNext (session_at w.setting i actor.seat) actor.cut tx
  pub after_is : after ≡ with_made w i actor (tx ∷ []) actor.seat.outcomes

-- no drop is due where the session stands
abbrev pub IsCalm : WorldParts → ℕ → Actor → Type 0
IsCalm w i a = IsCalmAt (session_at w.setting i a.seat) a.cut

-- the transaction that the answer of a request commits, if it does
abbrev pub committed_of : Specification → ℕ → Cut → Request → Answer → List Tx
committed_of s i cut (Do op args) (Commit number) = next_operation s cut i op args ∷ []
committed_of s i cut (Do op args) (Refused reason) = []
committed_of s i cut (Do op args) (Shown state) = []
committed_of s i cut (Show predicate places) answer = []

-- no drop is due, and the session's next request is answered where the session stands
pub record IsAnswered (w : WorldParts) (i : ℕ) (after : WorldParts) : Type 0 where
  pub actor : Actor
  pub is_actor : IsActor w i actor
  pub calm : IsCalm w i actor
  pub request : Request
  pub next : next_request actor.seat ≡ Some request
  pub outcome : Outcome
  pub cut_is : outcome.cut ≡ actor.cut
  pub answer : IsAnswer w.setting.spec w.setting.universe w.setting.base actor.seat.seen actor.cut i request
      outcome.answer
  pub after_is : after ≡ with_made w i actor (committed_of w.setting.spec i actor.cut request outcome.answer)
      (actor.seat.outcomes ++ outcome ∷ [])

-- no drop is due and no request is left, and nothing changes
pub record IsResting (w : WorldParts) (i : ℕ) (after : WorldParts) : Type 0 where
  pub actor : Actor
  pub is_actor : IsActor w i actor
  pub calm : IsCalm w i actor
  pub done : next_request actor.seat ≡ None
  pub after_is : after ≡ w

-- the session makes the drop that is due; where none is, its next request is answered; where none is left, it rests
pub data IsAct (w : WorldParts) (i : ℕ) (after : WorldParts) : Type 0 where
  drops : IsDropped w i after → IsAct w i after
  answers : IsAnswered w i after → IsAct w i after
  rests : IsResting w i after → IsAct w i after

-- the log lacks the transaction, and holds its cut
pub record IsNews (log : List Tx) (t : Tx) : Type 0 where
  pub lacks : IsMember log t → ⊥
  pub holds : (origin : ℕ) → count_of t.cut origin ≤ number_of origin log

-- the transaction is news to a replica, whose log takes it
pub record IsTaken (w : WorldParts) (r : ℕ) (t : Tx) (after : WorldParts) : Type 0 where
  pub log : List Tx
  pub log_at : slice_get w.logs r ≡ Some log
  pub news : IsNews log t
  pub after_is : after ≡ with_log w r (log ++ t ∷ [])

-- the transaction is no news to a replica, and nothing changes
pub record IsLeft (w : WorldParts) (r : ℕ) (t : Tx) (after : WorldParts) : Type 0 where
  pub log : List Tx
  pub log_at : slice_get w.logs r ≡ Some log
  pub no_news : IsNews log t → ⊥
  pub after_is : after ≡ w

-- the transaction is given to a replica
pub data IsGiven (w : WorldParts) (r : ℕ) (t : Tx) (after : WorldParts) : Type 0 where
  takes : IsTaken w r t after → IsGiven w r t after
  leaves : IsLeft w r t after → IsGiven w r t after

-- the entry in this place of one log is given to another replica
pub record IsDelivered (w : WorldParts) (from to place : ℕ) (after : WorldParts) : Type 0 where
  pub log : List Tx
  pub log_at : slice_get w.logs from ≡ Some log
  pub tx : Tx
  pub at : slice_get log place ≡ Some tx
  pub given : IsGiven w to tx after

-- the sender of a link knows of this cut too that the receiver has it
pub record IsHeard (w : WorldParts) (from to : ℕ) (clock : Cut) (after : WorldParts) : Type 0 where
  pub known : Cut
  pub known_at : slice_get w.peers (link_of from to) ≡ Some known
  pub after_is : after ≡ with_peer w (link_of from to) (joined known clock)

-- the world after the step
abbrev pub IsStep : WorldParts → Step → WorldParts → Type 0
IsStep w (Pull session) after = IsPulled w session after
IsStep w (Act session) after = IsAct w session after
IsStep w (Deliver from to place) after = IsDelivered w from to place after
IsStep w (Heard from to clock) after = IsHeard w from to clock after

-- both are replicas, and not the same
pub record IsLink (w : WorldParts) (from to : ℕ) : Type 0 where
  pub sends : from < length w.logs
  pub receives : to < length w.logs
  pub apart : from ≡ to → ⊥

-- a link, and a place in the log of its sender
pub record IsDeliverable (w : WorldParts) (from to place : ℕ) : Type 0 where
  pub link : IsLink w from to
  pub log : List Tx
  pub log_at : slice_get w.logs from ≡ Some log
  pub there : place < length log

-- a link, and a cut of transactions that its receiver has
pub record IsHearable (w : WorldParts) (from to : ℕ) (clock : Cut) : Type 0 where
  pub link : IsLink w from to
  pub log : List Tx
  pub log_at : slice_get w.logs to ≡ Some log
  pub has : (origin : ℕ) → count_of clock origin ≤ number_of origin log
  pub sized : length clock.counts ≡ 16

-- the sessions, replicas and places of the step exist
abbrev pub IsStepOf : WorldParts → Step → Type 0
IsStepOf w (Pull session) = session < length w.seats
IsStepOf w (Act session) = session < length w.seats
IsStepOf w (Deliver from to place) = IsDeliverable w from to place
IsStepOf w (Heard from to clock) = IsHearable w from to clock

-- the world after the steps, each of which is one of the world before it
abbrev pub IsRun : WorldParts → List Step → WorldParts → Type 0
IsRun w [] after = after ≡ w
IsRun w (step ∷ steps) after = (next : WorldParts) × IsStepOf w step × IsStep w step next × IsRun next steps after
