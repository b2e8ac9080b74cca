-- Up to which places of its logs a world has got, so that no step looks at an entry again.
--
--   IsLonger h after               the entries, with others at their end
--   AreUnread seats                no session has read an entry
--   AreRead logs seats             each session has seen the first entries of its replica's log, as many as it has read
--   AreCovered logs peers places   each sender knows that its receiver has the first entries of its log, as many as the
--                                  link's place tells
--   IsHeld s logs seats peers places     the world stands, and these places are right
use Rattle.std.specs.Prelude.{◌≡◌, ℕ, ◌<◌, List, ◌++◌, length, slice_get, get_or, Some}
use Rattle.ipa_clock.specs.declared.cut.Cut.{Cut}
use Rattle.ipa_history.specs.declared.history.Tx.{Tx}
use Rattle.ipa_gate.specs.Agreements.{IsReadTo, IsCoveredTo}
use Rattle.ipa_gate.specs.Logs.{LogParts}
use Rattle.ipa_gate.specs.Settings.{SettingParts}
use Rattle.ipa_world.specs.Worlds.{link_of}
use Rattle.ipa_world.specs.Standing.{IsStanding}
use Rattle.ipa_world.specs.declared.seats.Seat.{Seat}

-- the entries, with others at their end
pub record IsLonger (h after : List Tx) : Type 0 where
  pub rest : List Tx
  pub is : after ≡ h ++ rest

-- no session has read an entry
pub record AreUnread (seats : List Seat) : Type 0 where
  pub each : (i : ℕ) (seat : Seat) → slice_get seats i ≡ Some seat → seat.read ≡ 0

-- each session has seen the first entries of its replica's log, as many as it has read
pub record AreRead (logs : List LogParts) (seats : List Seat) : Type 0 where
  pub each : (i : ℕ) (seat : Seat) (log : LogParts) → slice_get seats i ≡ Some seat →
      slice_get logs seat.replica ≡ Some log → IsReadTo log.entries seat.session.seen seat.read

-- each sender knows that its receiver has the first entries of its log, as many as the link's place tells
pub record AreCovered (logs : List LogParts) (peers : List Cut) (places : List ℕ) : Type 0 where
  pub sized : length places ≡ 64
  pub each : (from to : ℕ) (log : LogParts) (known : Cut) → to < 8 → slice_get logs from ≡ Some log →
      slice_get peers (link_of from to) ≡ Some known →
      IsCoveredTo log.entries known (get_or places (link_of from to) 0)

-- the world stands, and these places are right
pub record IsHeld (s : SettingParts) (logs : List LogParts) (seats : List Seat) (peers : List Cut)
    (places : List ℕ) : Type 0 where
  pub standing : IsStanding s logs seats peers
  pub read : AreRead logs seats
  pub covered : AreCovered logs peers places
