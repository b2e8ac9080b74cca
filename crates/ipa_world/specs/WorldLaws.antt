-- The laws of worlds, which src/laws.rt carries.
--
--   IsSetup s works n   the work of a setting's sessions, each at one of n replicas, with requests that fit
--   StartIsLawful       the world in which nothing has happened is lawful
--   RunsStayLawful      whatever the steps are that lead from a lawful world to one whose logs have room, it is lawful
--   CutsKeep            every closed cut of every log of a lawful world keeps all clauses
--   ReadsAreCalm        and each outcome was answered at a state that keeps them, and is within the bounds
--   NoneIsWithheld      after a run of a setup's world, what a sender takes its receiver to have is in its log
--   LogsAgree           no two logs of a lawful world have two transactions under one dot
--   IsSettledAt w first    all logs hold what the first one holds, and no request is left
--   SettledIsLawfulEnd  there the first log, the outcomes and the state of all entries are a lawful end
--   CalmIsWithin        the state of all entries is within the bounds, where a session has seen them all and is calm
use Rattle.std.specs.Prelude.{◌≡◌, ℕ, ◌<◌, ◌≤◌, List, length, map, slice_get, Some}
use Rattle.ipa_clock.specs.declared.cut.Cut.{Cut}
use Rattle.ipa_clock.specs.Cut.{Covers}
use Rattle.ipa_spec.specs.Fits.{IsFit}
use Rattle.ipa_logic.specs.Requests.{IsRequest}
use Rattle.ipa_logic.specs.Truth.{Keeps}
use Rattle.ipa_logic.specs.declared.facts.Request.{Request}
use Rattle.ipa_logic.specs.Facts.{IsStateOf}
use Rattle.ipa_logic.specs.Groups.{Within}
use Rattle.ipa_logic.specs.declared.facts.Fact.{Fact}
use Rattle.ipa_history.specs.Histories.{IsMember, IsClosed}
use Rattle.ipa_history.specs.Values.{value_of, value_at}
use Rattle.ipa_history.specs.LawfulEnds.{IsLawfulEnd}
use Rattle.ipa_history.specs.declared.history.Tx.{Tx}
use Rattle.ipa_history.specs.declared.outcomes.Outcome.{Outcome}
use Rattle.ipa_reader.specs.declared.sessions.SessionWork.{SessionWork}
use Rattle.ipa_gate.specs.Settings.{SettingParts, IsSetting}
use Rattle.ipa_gate.specs.Agreements.{HasAll}
use Rattle.ipa_session.specs.Sessions.{IsCalmAt}
use Rattle.ipa_world.specs.Worlds.{SeatParts, WorldParts, link_of, start_of, session_at}
use Rattle.ipa_world.specs.Steps.{Actor, IsActor, IsCalm, IsRun}
use Rattle.ipa_world.specs.Room.{HasRoom}
use Rattle.ipa_world.specs.Lawful.{IsLawful, AreSame, HasNoneLeft}
use Rattle.ipa_world.specs.declared.steps.Step.{Step}

-- the work of the sessions of a setting, each at one of at most 8 replicas, with requests that fit
pub record IsSetup (s : SettingParts) (works : List SessionWork) (n : ℕ) : Type 0 where
  pub setting : IsSetting s
  pub sessions : length works ≡ s.sessions
  pub some : 0 < n
  pub few : n ≤ 8
  pub replicas : (k : ℕ) (work : SessionWork) → slice_get works k ≡ Some work → work.replica < n
  pub fits : (k j : ℕ) (work : SessionWork) (request : Request) → slice_get works k ≡ Some work →
      slice_get work.requests j ≡ Some request → IsRequest s.spec s.universe request

-- the world of a setup in which nothing has happened is lawful
abbrev pub StartIsLawful : Type 0
StartIsLawful =
    (s : SettingParts) (works : List SessionWork) (n : ℕ) → IsSetup s works n → IsLawful (start_of s works n)

-- whatever the steps are that lead from a lawful world to one whose logs have room, it is lawful
abbrev pub RunsStayLawful : Type 0
RunsStayLawful = (w : WorldParts) (steps : List Step) (after : WorldParts) → IsLawful w → IsRun w steps after →
    HasRoom after → IsLawful after

-- every closed cut of every log of a lawful world keeps all clauses, also one that no session has ever read
abbrev pub CutsKeep : Type 0
CutsKeep = (w : WorldParts) → IsFit w.setting.spec → IsLawful w → (r : ℕ) (log : List Tx) (c : Cut) →
    slice_get w.logs r ≡ Some log → IsClosed log c →
    Keeps w.setting.spec w.setting.universe (value_at w.setting.spec w.setting.base log c)

-- each outcome was answered at a state that keeps all clauses and is within the bounds
abbrev pub ReadsAreCalm : Type 0
ReadsAreCalm = (w : WorldParts) → IsFit w.setting.spec → IsLawful w → (i place : ℕ) (seat : SeatParts) (o : Outcome) →
    slice_get w.seats i ≡ Some seat → slice_get seat.outcomes place ≡ Some o →
    IsCalmAt (session_at w.setting i seat) o.cut

-- whatever the steps are that the world of a setup has taken, an entry that a sender takes its receiver to have is in
-- the receiver's log
abbrev pub NoneIsWithheld : Type 0
NoneIsWithheld = (s : SettingParts) (works : List SessionWork) (n : ℕ) (steps : List Step) (w : WorldParts) →
    IsSetup s works n → IsRun (start_of s works n) steps w → HasRoom w → (from to : ℕ) (known : Cut)
    (mine theirs : List Tx) (t : Tx) → slice_get w.peers (link_of from to) ≡ Some known →
    slice_get w.logs from ≡ Some mine → slice_get w.logs to ≡ Some theirs → IsMember mine t → Covers known t.dot →
    IsMember theirs t

-- no two logs of a lawful world have two transactions under one dot
abbrev pub LogsAgree : Type 0
LogsAgree = (w : WorldParts) → IsLawful w → (r q : ℕ) (one other : List Tx) (t u : Tx) → slice_get w.logs r ≡ Some one →
    slice_get w.logs q ≡ Some other → IsMember one t → IsMember other u → t.dot ≡ u.dot → t ≡ u

-- the first log has these entries, all logs hold the same, and no request is left
pub record IsSettledAt (w : WorldParts) (first : List Tx) : Type 0 where
  pub first_at : slice_get w.logs 0 ≡ Some first
  pub same : AreSame w.logs
  pub done : HasNoneLeft w

-- in a lawful world that is settled the first log, the outcomes and the state of all entries are a lawful end
abbrev pub SettledIsLawfulEnd : Type 0
SettledIsLawfulEnd = (w : WorldParts) (first : List Tx) (last : List Fact) → IsLawful w → IsSettledAt w first →
    IsStateOf (value_of w.setting.spec w.setting.base first) last →
    IsLawfulEnd w.setting.spec w.setting.universe w.setting.base (map (λ seat. seat.requests) w.seats) first
    (map (λ seat. seat.outcomes) w.seats) last

-- where a session of a lawful world has seen just these entries and is calm, their state is within the bounds
abbrev pub CalmIsWithin : Type 0
CalmIsWithin = (w : WorldParts) → IsLawful w → (i : ℕ) (a : Actor) → IsActor w i a → IsCalm w i a →
    (entries : List Tx) → HasAll entries a.seat.seen → HasAll a.seat.seen entries → (last : List Fact) →
    IsStateOf (value_of w.setting.spec w.setting.base entries) last → Within w.setting.spec.bounds last
