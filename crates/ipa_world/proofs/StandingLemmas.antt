-- The parts of a world, some of them changed.
--
--   at_index            what stands at a place of a list
--   mapped_at           and in what is told of it
--   set_each            what holds of each item of a list, and of one that is set in it
--   room_with           a world has room where a log with room is set in it
--   world_with          a world with these parts
--   changed, changed_seat, changed_log     the value of a world in which a session and a log were set
--   AreLogged-set, AreSeated-set           whose sessions and logs are those of the setting
--   standing_with       what a world keeps then
use Rattle.std.proofs.Common.{◌≡◌, ℕ, ◌<◌, ◌≤◌, List, length, map, Some, slice_get, sym, ◌∙◌, ap, subst, inl, inr}
use Rattle.std.specs.Prelude.{slice_set, slice_index_or}
use Rattle.std.specs.Option.{option_map}
use Rattle.std.proofs.lemmas.List.{map-set}
use Rattle.std.proofs.lemmas.Option.{slice_get-map, slice_get-get_or}
use Rattle.ipa_clock.specs.declared.cut.Cut.{Cut}
use Rattle.ipa_history.specs.declared.history.Tx.{Tx}
use Rattle.ipa_gate.specs.Logs.{LogParts, most}
use Rattle.ipa_gate.specs.Settings.{SettingParts}
use Rattle.ipa_world.specs.Worlds.{SeatParts, WorldParts, with_seat, with_log}
use Rattle.ipa_world.specs.Room.{HasRoom}
use Rattle.ipa_world.specs.Lawful.{IsLawful}
use Rattle.ipa_world.specs.LawfulMoves.{put_cases}
use Rattle.ipa_world.specs.Seats.{seat_parts}
use Rattle.ipa_world.specs.Standing.{entries_of, world_of, AreLogged, IsSeated, AreSeated, IsStanding}
use Rattle.ipa_world.specs.declared.seats.Seat.{Seat}

-- what stands at a place of a list
pub at_index : {X : Type 0} (xs : List X) (i : ℕ) (x : X) → i < length xs → x ≡ slice_index_or xs i x →
    slice_get xs i ≡ Some x
at_index xs i x inside is = slice_get-get_or xs i x inside ∙ ap (λ y. Some y) (sym is)

-- and in what is told of it
pub mapped_at : {X Y : Type 0} (f : X → Y) (xs : List X) (i : ℕ) (x : X) → slice_get xs i ≡ Some x →
    slice_get (map f xs) i ≡ Some (f x)
mapped_at f xs i x at = slice_get-map f xs i ∙ ap (λ o. option_map f o) at

-- what holds of each item of a list, and of one that is set in it
set_each : {X : Type 0} (P : ℕ → X → Type 0) (xs : List X) (i : ℕ) (y : X) →
    ((k : ℕ) (x : X) → slice_get xs k ≡ Some x → P k x) → P i y → (k : ℕ) (x : X) →
    slice_get (slice_set xs i y) k ≡ Some x → P k x
set_each P xs i y each here k x e = elim (put_cases xs i y k x e) [
  | inl same ↦ subst (λ n. P n x) (sym same.0) (subst (λ v. P i v) same.1 here)
  | inr old ↦ each k x old
]

-- a world has room where a log with room is set in it
pub room_with : (w : WorldParts) (r : ℕ) (entries : List Tx) → HasRoom w → length entries ≤ most →
    HasRoom (with_log w r entries)
room_with w r entries room few = record {
  each = λ k log at. set_each (λ n (l : List Tx). length l ≤ most) w.logs r entries room.each few k log at;
}

-- a world with these parts
abbrev pub world_with : SettingParts → List (List Tx) → List SeatParts → List Cut → WorldParts
world_with s logs seats peers = record { setting = s; logs = logs; seats = seats; peers = peers }

module _ (s : SettingParts) (logs : List LogParts) (seats : List Seat) (peers : List Cut) where
  -- the value of a world in which a session and a log were set
  pub changed : (i : ℕ) (seat : Seat) (r : ℕ) (log : LogParts) →
      world_of s (slice_set logs r log) (slice_set seats i seat) peers
      ≡ with_log (with_seat (world_of s logs seats peers) i (seat_parts seat)) r log.entries
  changed i seat r log = λ k. world_with s (map-set entries_of logs r log k) (map-set seat_parts seats i seat k) peers

  pub changed_seat : (i : ℕ) (seat : Seat) →
      world_of s logs (slice_set seats i seat) peers ≡ with_seat (world_of s logs seats peers) i (seat_parts seat)
  changed_seat i seat = ap (λ ss. world_with s (map entries_of logs) ss peers) (map-set seat_parts seats i seat)

  pub changed_log : (r : ℕ) (log : LogParts) →
      world_of s (slice_set logs r log) seats peers ≡ with_log (world_of s logs seats peers) r log.entries
  changed_log r log = ap (λ ls. world_with s ls (map seat_parts seats) peers) (map-set entries_of logs r log)

  pub AreLogged-set : (r : ℕ) (log : LogParts) → AreLogged s logs → log.setting ≡ s → AreLogged s (slice_set logs r log)
  AreLogged-set r log are setting = record {
    each = λ k x at. set_each (λ n (l : LogParts). l.setting ≡ s) logs r log are.each setting k x at;
  }

  pub AreSeated-set : (i : ℕ) (seat : Seat) → AreSeated s seats → IsSeated s i seat → AreSeated s (slice_set seats i seat)
  AreSeated-set i seat are is = record {
    each = λ k x at. set_each (λ n (l : Seat). IsSeated s n l) seats i seat are.each is k x at;
  }

-- what a world keeps whose value is lawful and has room
pub standing_with : (s : SettingParts) (logs : List LogParts) (seats : List Seat) (peers : List Cut) (after : WorldParts) →
    AreLogged s logs → AreSeated s seats → world_of s logs seats peers ≡ after → IsLawful after → HasRoom after →
    IsStanding s logs seats peers
standing_with s logs seats peers after logged seated is lawful room = record {
  logged = logged;
  seated = seated;
  lawful = subst (λ (w : WorldParts). IsLawful w) (sym is) lawful;
  room = subst (λ (w : WorldParts). HasRoom w) (sym is) room;
}
