-- How many turns a schedule can still take: a number that grows less with each turn.
--
--   left_of seat          how many requests a session has left
--   rest_at place i left  of so many requests that session i has left, those that it has once the round is over
--   remaining place i seats     the requests that are left once the round is over, of the sessions from number i on
--   until_end size place  the turns until the round is over
--   turns_left w plan     the turns to be drawn, a round for each of these requests, and the rest of the round
--   IsAhead w after       no session has more requests left than before
--   IsFewer w i after     and session i, if it had one left, has one less
use Rattle.std.specs.Prelude.{◌≡◌, ℕ, zero, suc, ◌+◌, ◌-◌, ◌*◌, ◌≤◌, nat_lt, List, [], ◌∷◌, length, slice_get, Some, if◌then◌else◌}
use Rattle.ipa_world.specs.Worlds.{SeatParts, WorldParts}
use Rattle.ipa_schedule.specs.declared.plan.Plan.{Plan}

-- how many requests a session has left
abbrev pub left_of : SeatParts → ℕ
left_of seat = length seat.requests - length seat.outcomes

-- those that session i has once the round is over: one less, if its turn in it is still to come
abbrev pub rest_at : ℕ → ℕ → ℕ → ℕ
rest_at zero i left = left
rest_at (suc place) i left = if nat_lt place i then left - 1 else left

-- the requests that are left once the round is over, of the sessions from number i on
abbrev pub remaining : ℕ → ℕ → List SeatParts → ℕ
remaining place i [] = 0
remaining place i (seat ∷ seats) = rest_at place i (left_of seat) + remaining place (i + 1) seats

-- the turns until the round is over, in which some were taken
abbrev pub until_end : ℕ → ℕ → ℕ
until_end size zero = 0
until_end size (suc place) = size - suc place

-- the turns to be drawn, a round for each request that is left once the round is over, and the rest of the round
abbrev pub turns_left : WorldParts → Plan → ℕ
turns_left w plan = plan.left + length plan.round.items * remaining plan.place 0 w.seats
    + until_end (length plan.round.items) plan.place

-- no session has more requests left than before
pub record IsAhead (w after : WorldParts) : Type 0 where
  pub sessions : length after.seats ≡ length w.seats
  pub each : (j : ℕ) (seat since : SeatParts) → slice_get w.seats j ≡ Some seat → slice_get after.seats j ≡ Some since →
      left_of since ≤ left_of seat

-- and session i, if it had one left, has one less
pub record IsFewer (w : WorldParts) (i : ℕ) (after : WorldParts) : Type 0 where
  pub ahead : IsAhead w after
  pub one : (seat since : SeatParts) → slice_get w.seats i ≡ Some seat → slice_get after.seats i ≡ Some since →
      left_of since ≤ left_of seat - 1
