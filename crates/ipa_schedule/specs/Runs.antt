-- Runs that can be stopped between turns.
--
--   RunState             a run, and which turns it has still to take
--   HasBegun s k         k turns were begun
--   IsEnded s            no turn is left before the settling
--   IsOneMore k s after  the k-th turn was taken
--   IsNoMore k s after   no turn is left, and nothing changes
--   IsTooFull k s after  the k-th turn met a log without room, or an earlier one has
--   IsCutOff k s after   memory was wanting in the k-th turn
--   HasTurned k result s after    what was answered, and what was done then
--   IsSettledEnd r end   the run was settled, and this is its end, which is lawful
--   IsFullAtLast r       its settling meets a log without room
--   IsReady w p plan     what a run keeps: there is a replica, and the run is under way by its plan
use Rattle.std.specs.Prelude.{◌≡◌, ℕ, ◌+◌, ◌<◌, true, false, length, Result, Ok, Err}
use Rattle.ipa_history.specs.declared.outcomes.SimEnd.{SimEnd}
use Rattle.ipa_world.specs.Worlds.{WorldParts}
use Rattle.ipa_world.specs.declared.steps.WorldFault.{WorldFault}
use Rattle.ipa_world.specs.declared.steps.WorldFault.TheVariants.{Full, NoMemory}
use Rattle.ipa_schedule.specs.Ends.{IsEndOf, IsLawfulFor}
use Rattle.ipa_schedule.specs.Going.{RunParts}
use Rattle.ipa_schedule.specs.Plans.{IsPlanAt, IsPlanned, IsOn, IsAtEnd, IsTurnAt}
use Rattle.ipa_schedule.specs.Running.{IsLater, IsUnderWay, run_of}
use Rattle.ipa_schedule.specs.Schedules.{IsOver, IsSettled}
use Rattle.ipa_schedule.specs.declared.plan.Plan.{Plan}
use Rattle.ipa_schedule.specs.declared.progress.Progress.{Progress}
use Rattle.ipa_schedule.specs.declared.turned.Turned.{Turned}
use Rattle.ipa_schedule.specs.declared.turned.Turned.TheVariants.{More, Ended}

-- a run, and which turns it has still to take
pub record RunState : Type 0 where
  pub run : RunParts
  pub plan : Plan

-- the state of a world, and of how far it has come
abbrev pub state_of : WorldParts → Progress → Plan → RunState
state_of w p plan = record { run = run_of w p; plan = plan }

-- k turns were begun
abbrev pub HasBegun : RunState → ℕ → Type 0
HasBegun s k = IsPlanAt s.run.world k s.plan

-- no turn is left before the settling, and no log was without room
pub record IsEnded (s : RunState) : Type 0 where
  pub going : s.run.full ≡ false
  pub end : IsAtEnd s.run.world s.plan

-- the k-th turn was left, and was taken
pub record IsOneMore (k : ℕ) (s after : RunState) : Type 0 where
  pub going : s.run.full ≡ false
  pub on : IsOn s.run.world s.plan
  pub turned : IsTurnAt s.plan.number k s.run after.run
  pub room : after.run.full ≡ false
  pub begun : HasBegun after (k + 1)

-- no turn is left, and nothing changes
pub record IsNoMore (k : ℕ) (s after : RunState) : Type 0 where
  pub ended : IsEnded s
  pub over : IsOver s.plan.number k s.run.world
  pub same : after ≡ s

-- the k-th turn was left, and met a log without room
pub record IsTurnedFull (k : ℕ) (s after : RunState) : Type 0 where
  pub going : s.run.full ≡ false
  pub on : IsOn s.run.world s.plan
  pub turned : IsTurnAt s.plan.number k s.run after.run
  pub full : after.run.full ≡ true

-- so it was, or an earlier turn has met one, and nothing changes
pub data IsTooFull (k : ℕ) (s after : RunState) : Type 0 where
  now : IsTurnedFull k s after → IsTooFull k s after
  before : s.run.full ≡ true → after ≡ s → IsTooFull k s after

-- memory was wanting in the k-th turn, after which the next one comes
pub record IsCutOff (k : ℕ) (s after : RunState) : Type 0 where
  pub going : s.run.full ≡ false
  pub room : after.run.full ≡ false
  pub begun : HasBegun after (k + 1)

-- what was answered, and what was done then
abbrev pub HasTurned : ℕ → Result Turned WorldFault → RunState → RunState → Type 0
HasTurned k (Ok More) s after = IsOneMore k s after
HasTurned k (Ok Ended) s after = IsNoMore k s after
HasTurned k (Err Full) s after = IsTooFull k s after
HasTurned k (Err NoMemory) s after = IsCutOff k s after

-- the run was settled, and this is its end, which is lawful
pub record IsSettledEnd (r : RunParts) (end : SimEnd) : Type 0 where
  pub after : RunParts
  pub settled : IsSettled r after
  pub going : after.full ≡ false
  pub later : IsLater r.world after.world
  pub end_is : IsEndOf after end
  pub lawful : IsLawfulFor after.world end

-- the settling of the run meets a log without room
pub record IsFullAtLast (r : RunParts) : Type 0 where
  pub after : RunParts
  pub settled : IsSettled r after
  pub full : after.full ≡ true

-- there is a replica, and the run is under way by its plan
pub record IsReady (w : WorldParts) (p : Progress) (plan : Plan) : Type 0 where
  pub some : 0 < length w.logs
  pub way : IsUnderWay w p
  pub planned : IsPlanned w plan
