-- What a world keeps beside its value.
--
--   world_of s logs seats peers    the value of a world with these parts
--   AreLogged s logs               each log is one of the setting
--   IsSeated s i seat              the session is number i of the setting
--   AreSeated s seats              each session is one of the setting, in the order of their numbers
--   IsStanding s logs seats peers  each log and each session is one of the setting, and the value is lawful and has room
use Rattle.std.specs.Prelude.{◌≡◌, ℕ, List, map, slice_get, Some}
use Rattle.ipa_clock.specs.declared.cut.Cut.{Cut}
use Rattle.ipa_history.specs.declared.history.Tx.{Tx}
use Rattle.ipa_gate.specs.Logs.{LogParts}
use Rattle.ipa_gate.specs.Settings.{SettingParts}
use Rattle.ipa_world.specs.Worlds.{WorldParts}
use Rattle.ipa_world.specs.Room.{HasRoom}
use Rattle.ipa_world.specs.Lawful.{IsLawful}
use Rattle.ipa_world.specs.Seats.{seat_parts}
use Rattle.ipa_world.specs.declared.seats.Seat.{Seat}

-- the entries of a log
abbrev pub entries_of : LogParts → List Tx
entries_of log = log.entries

-- the value of a world with these parts
abbrev pub world_of : SettingParts → List LogParts → List Seat → List Cut → WorldParts
world_of s logs seats peers =
    record { setting = s; logs = map entries_of logs; seats = map seat_parts seats; peers = peers }

-- the session is number i of the setting
pub record IsSeated (s : SettingParts) (i : ℕ) (seat : Seat) : Type 0 where
  pub setting : seat.session.setting ≡ s
  pub origin : seat.session.origin ≡ i

-- each log is one of the setting
pub record AreLogged (s : SettingParts) (logs : List LogParts) : Type 0 where
  pub each : (r : ℕ) (log : LogParts) → slice_get logs r ≡ Some log → log.setting ≡ s

-- each session is one of the setting, in the order of their numbers
pub record AreSeated (s : SettingParts) (seats : List Seat) : Type 0 where
  pub each : (i : ℕ) (seat : Seat) → slice_get seats i ≡ Some seat → IsSeated s i seat

-- each log and each session is one of the setting, and the value is lawful and has room
pub record IsStanding (s : SettingParts) (logs : List LogParts) (seats : List Seat) (peers : List Cut) : Type 0 where
  pub logged : AreLogged s logs
  pub seated : AreSeated s seats
  pub lawful : IsLawful (world_of s logs seats peers)
  pub room : HasRoom (world_of s logs seats peers)
