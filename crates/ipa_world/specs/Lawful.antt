-- What holds of every world, whatever its steps were.
--
--   IsKnownBy w t         the session of the transaction's origin has seen it: it made it
--   AreLogs w             each log is a legal history of the setting, and holds what sessions made, and nothing else
--   HasSeen w i seat      what a session has seen is a legal history, lies in its replica's log, and sessions made it
--   IsOutcomeOf w i seat request o     what an outcome owes: it is the request's answer at a closed cut of what was
--                         seen, within the bounds; and a commit is there
--   IsBehind i seen o     the cut of all that was seen covers the outcome's cut and its commit
--   IsCommittedBy outcomes t     an operation is committed by one of the outcomes
--   HasAnswered w i seat  the session's outcomes are those of its first requests, its cuts grow, and each operation
--                         that it made is committed by one of them
--   IsLawful w            all of this
--   IsEntry w t           some log of the world has the transaction
--   AreSame logs          all logs hold the same transactions
--   HasNoneLeft w         each session was answered all its requests
use Rattle.std.specs.Prelude.{◌≡◌, ℕ, ◌+◌, ◌≤◌, List, length, slice_get, Some}
use Rattle.ipa_clock.specs.declared.cut.Cut.{Cut}
use Rattle.ipa_clock.specs.Cut.{Covers, IsBelow}
use Rattle.ipa_spec.specs.declared.operations.Action.TheVariants.{Op}
use Rattle.ipa_logic.specs.Requests.{IsRequest}
use Rattle.ipa_logic.specs.declared.facts.Request.{Request}
use Rattle.ipa_history.specs.Histories.{IsMember}
use Rattle.ipa_history.specs.Clocks.{IsClockOf}
use Rattle.ipa_history.specs.Answers.{IsAnswer}
use Rattle.ipa_history.specs.LawfulEnds.{IsReading, IsPast, IsEntered}
use Rattle.ipa_history.specs.declared.history.Tx.{Tx}
use Rattle.ipa_history.specs.declared.answers.Answer.TheVariants.{Commit}
use Rattle.ipa_history.specs.declared.outcomes.Outcome.{Outcome}
use Rattle.ipa_gate.specs.Settings.{IsSetting}
use Rattle.ipa_gate.specs.Logs.{IsLog}
use Rattle.ipa_session.specs.Sessions.{IsSession}
use Rattle.ipa_world.specs.Worlds.{SeatParts, WorldParts, session_at}

-- the session of the transaction's origin has seen it: it made it
pub record IsKnownBy (w : WorldParts) (t : Tx) : Type 0 where
  pub seat : SeatParts
  pub seat_at : slice_get w.seats t.dot.origin ≡ Some seat
  pub seen : IsMember seat.seen t

-- each log is a legal history of the setting, and holds what sessions made, and nothing else
pub record AreLogs (w : WorldParts) : Type 0 where
  pub few : length w.logs ≤ 8
  pub logs : (r : ℕ) (log : List Tx) → slice_get w.logs r ≡ Some log → IsLog w.setting log
  pub made : (r : ℕ) (log : List Tx) (t : Tx) → slice_get w.logs r ≡ Some log → IsMember log t → IsKnownBy w t

-- what a session has seen is a legal history, lies in its replica's log, and was made by sessions
pub record HasSeen (w : WorldParts) (i : ℕ) (seat : SeatParts) : Type 0 where
  pub session : IsSession (session_at w.setting i seat)
  pub log : List Tx
  pub log_at : slice_get w.logs seat.replica ≡ Some log
  pub lies : (t : Tx) → IsMember seat.seen t → IsMember log t
  pub made : (t : Tx) → IsMember seat.seen t → IsKnownBy w t

-- the outcome is the request's answer at a closed cut of what was seen, whose state is within the bounds; and where it
-- is a commit, the transaction was seen
pub record IsOutcomeOf (w : WorldParts) (i : ℕ) (seat : SeatParts) (request : Request) (o : Outcome) : Type 0 where
  pub reading : IsReading w.setting.spec w.setting.base seat.seen o.cut
  pub answer : IsAnswer w.setting.spec w.setting.universe w.setting.base seat.seen o.cut i request o.answer
  pub entered : IsEntered seat.seen i o.cut request o.answer

-- the cut of all that the session has seen covers the cut and the commit of an outcome
pub record IsBehind (i : ℕ) (seen : List Tx) (o : Outcome) : Type 0 where
  pub cut : (c : Cut) → IsClockOf seen c → IsBelow o.cut c
  pub commit : (c : Cut) (number : ℕ) → IsClockOf seen c → o.answer ≡ Commit number →
      Covers c (record { origin = i; number = number })

-- a session's operation is committed by one of its outcomes
pub record IsCommittedBy (outcomes : List Outcome) (t : Tx) : Type 0 where
  pub place : ℕ
  pub outcome : Outcome
  pub at : slice_get outcomes place ≡ Some outcome
  pub commits : outcome.answer ≡ Commit t.dot.number

-- the session's outcomes are those of its first requests, its cuts grow, and each of its operations is committed
pub record HasAnswered (w : WorldParts) (i : ℕ) (seat : SeatParts) : Type 0 where
  pub few : length seat.outcomes ≤ length seat.requests
  pub fit : (place : ℕ) (request : Request) → slice_get seat.requests place ≡ Some request →
      IsRequest w.setting.spec w.setting.universe request
  pub outcomes : (place : ℕ) (request : Request) (o : Outcome) → slice_get seat.requests place ≡ Some request →
      slice_get seat.outcomes place ≡ Some o → IsOutcomeOf w i seat request o
  pub behind : (place : ℕ) (o : Outcome) → slice_get seat.outcomes place ≡ Some o → IsBehind i seat.seen o
  pub past : (place : ℕ) (earlier later : Outcome) → slice_get seat.outcomes place ≡ Some earlier →
      slice_get seat.outcomes (place + 1) ≡ Some later → IsPast i earlier later
  pub committed : (t : Tx) (op : ℕ) → IsMember seat.seen t → t.dot.origin ≡ i → t.action ≡ Op op →
      IsCommittedBy seat.outcomes t

-- the setting is one, with as many sessions as the world has, and all that was said holds of its logs and sessions
pub record IsLawful (w : WorldParts) : Type 0 where
  pub setting : IsSetting w.setting
  pub sessions : length w.seats ≡ w.setting.sessions
  pub senders : length w.peers ≡ 64
  pub logs : AreLogs w
  pub seen : (i : ℕ) (seat : SeatParts) → slice_get w.seats i ≡ Some seat → HasSeen w i seat
  pub answered : (i : ℕ) (seat : SeatParts) → slice_get w.seats i ≡ Some seat → HasAnswered w i seat

-- some log of the world has the transaction
pub record IsEntry (w : WorldParts) (t : Tx) : Type 0 where
  pub replica : ℕ
  pub log : List Tx
  pub log_at : slice_get w.logs replica ≡ Some log
  pub member : IsMember log t

-- all logs hold the same transactions
pub record AreSame (logs : List (List Tx)) : Type 0 where
  pub each : (r q : ℕ) (one other : List Tx) (t : Tx) → slice_get logs r ≡ Some one → slice_get logs q ≡ Some other →
      IsMember one t → IsMember other t

-- no session has a request left
pub record HasNoneLeft (w : WorldParts) : Type 0 where
  pub each : (i : ℕ) (seat : SeatParts) → slice_get w.seats i ≡ Some seat → length seat.requests ≤ length seat.outcomes
