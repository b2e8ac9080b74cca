-- The end of a run.
--
--   IsNew w               a world in which nothing has happened
--   IsEndOf r end         the entries of the first replica's log, what the sessions were answered, the fates that were given,
--                         and the state with all entries
--   IsLawfulFor w end     the end is lawful, its facts are within all bounds, and all logs hold the same
--   IsEndOfSchedule number w after end     the schedule of the number led from a world to another one, and this is its end
--   IsFullOf number w after fates          the schedule met a log without room there, and these are the fates that were given
--   IfFull P fault        the fates, where a log was without room, are so
use Rattle.std.specs.Prelude.{◌≡◌, ℕ, ◌<◌, List, map, slice_get, Some}
use Rattle.ipa_logic.specs.Facts.{IsStateOf}
use Rattle.ipa_logic.specs.Groups.{Within}
use Rattle.ipa_history.specs.LawfulEnds.{IsLawfulEnd}
use Rattle.ipa_history.specs.Values.{value_of}
use Rattle.ipa_history.specs.declared.outcomes.Fate.{Fate}
use Rattle.ipa_history.specs.declared.outcomes.SimEnd.{SimEnd}
use Rattle.ipa_reader.specs.declared.sessions.SessionWork.{SessionWork}
use Rattle.ipa_gate.specs.Settings.{SettingParts}
use Rattle.ipa_world.specs.Worlds.{WorldParts, start_of}
use Rattle.ipa_world.specs.Lawful.{AreSame}
use Rattle.ipa_schedule.specs.Going.{RunParts, begun}
use Rattle.ipa_schedule.specs.Schedules.{IsScheduled, IsFullSchedule}
use Rattle.ipa_schedule.specs.declared.running.SimFault.{SimFault}
use Rattle.ipa_schedule.specs.declared.running.SimFault.TheVariants.{Full, NoMemory}

-- the world of a setting, the sessions' work and one replica or more, in which nothing has happened
pub record IsNew (w : WorldParts) : Type 0 where
  pub setting : SettingParts
  pub works : List SessionWork
  pub replicas : ℕ
  pub some : 0 < replicas
  pub is : w ≡ start_of setting works replicas

-- the entries of the first replica's log, what the sessions were answered, the fates, and the state with all entries
pub record IsEndOf (r : RunParts) (end : SimEnd) : Type 0 where
  pub entries : slice_get r.world.logs 0 ≡ Some end.entries
  pub outcomes : end.outcomes ≡ map (λ seat. seat.outcomes) r.world.seats
  pub fates : end.fates ≡ r.fates
  pub last : IsStateOf (value_of r.world.setting.spec r.world.setting.base end.entries) end.last

-- the end is lawful for the sessions' requests, its facts are within all bounds, and all logs hold the same transactions
pub record IsLawfulFor (w : WorldParts) (end : SimEnd) : Type 0 where
  pub lawful : IsLawfulEnd w.setting.spec w.setting.universe w.setting.base (map (λ seat. seat.requests) w.seats)
      end.entries end.outcomes end.last
  pub within : Within w.setting.spec.bounds end.last
  pub same : AreSame w.logs

-- the schedule of the number, for the fates of the end, leads from one world to the other, and this is its end
pub record IsEndOfSchedule (number : ℕ) (w after : WorldParts) (end : SimEnd) : Type 0 where
  pub run : RunParts
  pub scheduled : IsScheduled number (begun w) run
  pub after_is : run.world ≡ after
  pub end_is : IsEndOf run end

-- the schedule of the number, for these fates, meets a log without room, and leads from one world to the other up to there
pub record IsFullOf (number : ℕ) (w after : WorldParts) (fates : List (List Fate)) : Type 0 where
  pub run : RunParts
  pub full : IsFullSchedule number (begun w) run
  pub after_is : run.world ≡ after
  pub fates_are : run.fates ≡ fates

-- the fates that were given until a log was without room are so
abbrev pub IfFull : (List (List Fate) → Type 0) → SimFault → Type 0
IfFull P (Full fates) = P fates
IfFull P NoMemory = Unit {0}
