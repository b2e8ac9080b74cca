-- The session of a world, and the log at which it acts.
--
--   seat_parts seat         the session's part of a world's value
--   IsPlaced w seat log     this is a session of the world, and the log of its replica
--   placed w i seat log     the world with this session as number i, and this log in its place
--   IsWelcome s h t         the transaction comes next in the entries, and is legal there
--   IsGivable s h t         no other entry stands under its dot, and where it is news to the entries, it is welcome
--   IsOpenTo p h            the entries have what the session has seen, and its lawful next transaction is welcome
--   IsGivenTo h t after     the entries after the transaction was given to them
--   IsTooMuch h t           it is news to entries that have no room
--   ComesInWorlds fault     of the faults of an offer, those that a world meets
--   left_of fault           what such a fault is in a world
use Rattle.std.specs.Prelude.{◌≡◌, ℕ, ◌<◌, ◌≤◌, List, [], ◌∷◌, ◌++◌, length, slice_get, Some, Result, Ok, Err}
use Rattle.ipa_clock.specs.declared.cut.Cut.{Cut}
use Rattle.ipa_history.specs.Histories.{IsMember}
use Rattle.ipa_history.specs.Clocks.{IsClockOf}
use Rattle.ipa_history.specs.Legality.{IsLegal}
use Rattle.ipa_history.specs.declared.history.Tx.{Tx}
use Rattle.ipa_gate.specs.Agreements.{HasAll}
use Rattle.ipa_gate.specs.Logs.{LogParts, most}
use Rattle.ipa_gate.specs.Offers.{IsNextIn}
use Rattle.ipa_gate.specs.Settings.{SettingParts}
use Rattle.ipa_gate.specs.Shapes.{IsShaped}
use Rattle.ipa_gate.specs.declared.answers.OfferFault.{OfferFault}
use Rattle.ipa_gate.specs.declared.answers.OfferFault.TheVariants.{Shape, Differs, Gap, OpenCut, Full, Illegal, NoMemory}
use Rattle.ipa_session.specs.Sessions.{SessionParts, IsLawfulNext}
use Rattle.ipa_world.specs.Worlds.{SeatParts, WorldParts, with_seat, with_log}
use Rattle.ipa_world.specs.Steps.{IsNews}
use Rattle.ipa_world.specs.declared.seats.Seat.{Seat}
use Rattle.ipa_world.specs.declared.steps.WorldFault.{WorldFault}
use Rattle.ipa_world.specs.declared.steps.WorldFault.TheVariants.{Full as TooFull, NoMemory as Wanting}

-- the session's part of a world's value
abbrev pub seat_parts : Seat → SeatParts
seat_parts seat = record {
  replica = seat.replica;
  requests = seat.requests;
  seen = seat.session.seen;
  outcomes = seat.outcomes;
}

-- this is a session of the world, and the log of its replica
pub record IsPlaced (w : WorldParts) (seat : Seat) (log : LogParts) : Type 0 where
  pub setting : w.setting ≡ seat.session.setting
  pub seat_at : slice_get w.seats seat.session.origin ≡ Some (seat_parts seat)
  pub log_at : slice_get w.logs seat.replica ≡ Some log.entries

-- the world with this session as number i, and this log in its place
abbrev pub placed : WorldParts → ℕ → Seat → LogParts → WorldParts
placed w i seat log = with_log (with_seat w i (seat_parts seat)) seat.replica log.entries

-- the transaction comes next in the entries, and is legal there
pub record IsWelcome (s : SettingParts) (h : List Tx) (t : Tx) : Type 0 where
  pub next : IsNextIn s h t
  pub legal : IsLegal s.spec s.universe s.base h t

-- it has the right shape, no other entry stands under its dot, and where it is news to the entries, it is welcome
pub record IsGivable (s : SettingParts) (h : List Tx) (t : Tx) : Type 0 where
  pub shaped : IsShaped s t
  pub alone : (u : Tx) → IsMember h u → u.dot ≡ t.dot → u ≡ t
  pub welcome : IsNews h t → IsWelcome s h t

-- the entries have what the session has seen, and its lawful next transaction is welcome to them
pub record IsOpenTo (p : SessionParts) (h : List Tx) : Type 0 where
  pub has : HasAll h p.seen
  pub few : length p.seen ≤ length h
  pub room : length h ≤ most
  pub welcome : (c : Cut) (t : Tx) → IsClockOf p.seen c → IsLawfulNext p c t → IsWelcome p.setting h t

-- the entries after the transaction was given to them: it is at their end where it was news and there was room
pub data IsGivenTo (h : List Tx) (t : Tx) (after : List Tx) : Type 0 where
  takes : IsNews h t → length h < most → after ≡ h ++ t ∷ [] → IsGivenTo h t after
  leaves : (IsNews h t → ⊥) → after ≡ h → IsGivenTo h t after

-- the transaction is news to entries that have no room
pub record IsTooMuch (h : List Tx) (t : Tx) : Type 0 where
  pub news : IsNews h t
  pub full : length h ≡ most

-- of the faults of an offer, those that a world meets
abbrev pub ComesInWorlds : OfferFault → Type 0
ComesInWorlds Shape = ⊥
ComesInWorlds (Differs here there) = ⊥
ComesInWorlds (Gap origin have need) = Unit {0}
ComesInWorlds (OpenCut member) = ⊥
ComesInWorlds Full = Unit {0}
ComesInWorlds (Illegal reason) = ⊥
ComesInWorlds NoMemory = Unit {0}

-- what such a fault is in a world: a gap is none
abbrev pub left_of : OfferFault → Result (Unit {0}) WorldFault
left_of Shape = Ok tt
left_of (Differs here there) = Ok tt
left_of (Gap origin have need) = Ok tt
left_of (OpenCut member) = Ok tt
left_of Full = Err TooFull
left_of (Illegal reason) = Ok tt
left_of NoMemory = Err Wanting
