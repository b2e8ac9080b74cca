-- The schedule of a number.
--
--   links_from n from     the links from one of n replicas to each other, in order
--   round_of w            a plain round: a turn of each session in order, and then of each link
--   longest w             the greatest number of requests of a session
--   drawn_of number size most   how many turns are drawn of a round of this length, where a session has so many requests
--   drawn number w        how many turns are drawn
--   draw number k         the k-th number that is drawn
--   turn_at number w k    the k-th turn: one of a round, drawn at first, and then round after round
--   IsOver number r0 k r  k turns were taken, a whole number of plain rounds among them, and no request is left
--   IsRunTo number r0 k r the run after k turns
--   IsExchange, IsExchanged r r'     over each link, all that the sender's log has is given to the receiver, without weather
--   IsSettled r r'        an exchange; the first session pulls and makes the drops that are due; a second exchange
--   IsScheduled number r0 r      the run of the number, to its end
--   IsFullSchedule number r0 r   the run of the number, where it ends before a step that is due an entry in a log without room
use Rattle.std.specs.Prelude.{◌≡◌, ℕ, zero, suc, ◌+◌, ◌*◌, ◌-◌, ◌%◌, ◌<◌, ◌==◌, nat_lt, not, true, false, min, max, List, [], ◌∷◌, ◌++◌, length, map, fold, filter, slice_get, Option, Some, if◌then◌else◌}
use Rattle.std.specs.List.{flat_map, range_with_len}
use Rattle.rand_pcg.specs.Lcg.{started, increment_of, advance}
use Rattle.rand_pcg.specs.Pcg.{pcg32, multiplier_64}
use Rattle.ipa_logic.specs.declared.facts.Request.{Request}
use Rattle.ipa_history.specs.declared.history.Tx.{Tx}
use Rattle.ipa_world.specs.Worlds.{WorldParts}
use Rattle.ipa_world.specs.Lawful.{HasNoneLeft}
use Rattle.ipa_world.specs.declared.steps.Step.TheVariants.{Pull}
use Rattle.ipa_schedule.specs.Going.{RunParts, IsMoved, IsOfferedAll}
use Rattle.ipa_schedule.specs.Turns.{IsTurn, IsDropping}
use Rattle.ipa_schedule.specs.declared.turns.Turn.{Turn}
use Rattle.ipa_schedule.specs.declared.turns.Turn.TheVariants.{Session, Link}

-- the numbers below n
abbrev pub below : ℕ → List ℕ
below n = range_with_len 0 n

-- the links from one replica to each other, in order
abbrev pub links_from : ℕ → ℕ → List Turn
links_from n from = map (λ to. Link from to) (filter (λ to. not (to == from)) (below n))

-- all links, in order
abbrev pub links_of : ℕ → List Turn
links_of n = flat_map (links_from n) (below n)

-- a turn of each session in order, and then of each link
abbrev pub round_of : WorldParts → List Turn
round_of w = map Session (below (length w.seats)) ++ links_of (length w.logs)

-- the greatest number of requests of a session
abbrev pub longest : WorldParts → ℕ
longest w = fold (λ n seat. max n (length seat.requests)) 0 w.seats

-- how many turns of a round of this length are drawn: none for the number 0
abbrev pub drawn_of : ℕ → ℕ → ℕ → ℕ
drawn_of number size most = if number == 0 then 0 else min 65536 (2 * size * (most + 1))

-- how many turns are drawn
abbrev pub drawn : ℕ → WorldParts → ℕ
drawn number w = drawn_of number (length (round_of w)) (longest w)

-- the k-th number that is drawn, of 32 bits
abbrev pub draw : ℕ → ℕ → ℕ
draw number k = (pcg32 (advance 64 multiplier_64 k (started 64 multiplier_64 number (increment_of 64 64)))).0

-- the place of the k-th turn in a round
abbrev pub place_at : ℕ → WorldParts → ℕ → ℕ
place_at number w k =
    if nat_lt k (drawn number w) then draw number k % length (round_of w)
    else (k - drawn number w) % length (round_of w)

-- the k-th turn
abbrev pub turn_at : ℕ → WorldParts → ℕ → Option Turn
turn_at number w k = slice_get (round_of w) (place_at number w k)

-- the turns that were drawn and some whole rounds were taken, and no request is left
pub record IsOver (number k : ℕ) (w : WorldParts) : Type 0 where
  pub rounds : ℕ
  pub taken : k ≡ drawn number w + rounds * length (round_of w)
  pub done : HasNoneLeft w

-- the run after k turns
pub data IsRunTo (number : ℕ) (start : RunParts) : ℕ → RunParts → Type 0 where
  begins : (r : RunParts) → r ≡ start → IsRunTo number start 0 r
  turns : (k : ℕ) (turn : Turn) (before after : RunParts) → IsRunTo number start k before → before.full ≡ false →
      (IsOver number k before.world → ⊥) → turn_at number before.world k ≡ Some turn → IsTurn before turn after →
      IsRunTo number start (suc k) after

-- all that the sender's log has is given to the receiver
pub record IsExchangeOver (r : RunParts) (from to : ℕ) (after : RunParts) : Type 0 where
  pub log : List Tx
  pub log_at : slice_get r.world.logs from ≡ Some log
  pub offered : IsOfferedAll r to log after

-- the same over each of the links, one after the other
abbrev pub IsExchange : RunParts → List Turn → RunParts → Type 0
IsExchange r [] after = after ≡ r
IsExchange r (Link from to ∷ links) after = (next : RunParts) × IsExchangeOver r from to next × IsExchange next links after
IsExchange r (Session session ∷ links) after = ⊥

-- and over all links of the world
abbrev pub IsExchanged : RunParts → RunParts → Type 0
IsExchanged r after = IsExchange r (links_of (length r.world.logs)) after

-- the first session pulls and makes the drops that are due
pub record IsFirstCalmed (r after : RunParts) : Type 0 where
  pub pulled : RunParts
  pub pull : IsMoved r (Pull 0) pulled
  pub drops : IsDropping pulled 0 after

-- the same, where there is a session
pub data IsCalmed (r after : RunParts) : Type 0 where
  first : 0 < length r.world.seats → IsFirstCalmed r after → IsCalmed r after
  nobody : length r.world.seats ≡ 0 → after ≡ r → IsCalmed r after

-- an exchange; the first session pulls and makes the drops that are due; and a second exchange
pub record IsSettled (r after : RunParts) : Type 0 where
  pub exchanged : RunParts
  pub first : IsExchanged r exchanged
  pub calmed : RunParts
  pub calms : IsCalmed exchanged calmed
  pub second : IsExchanged calmed after

-- all turns were taken
pub record IsPlayed (number : ℕ) (start r : RunParts) : Type 0 where
  pub turns : ℕ
  pub run : IsRunTo number start turns r
  pub going : r.full ≡ false
  pub over : IsOver number turns r.world

-- the run of the number, to its end
pub record IsScheduled (number : ℕ) (start after : RunParts) : Type 0 where
  pub played : RunParts
  pub is_played : IsPlayed number start played
  pub settled : IsSettled played after
  pub going : after.full ≡ false

-- a turn met a log without room
pub record IsFullTurn (number : ℕ) (start after : RunParts) : Type 0 where
  pub turns : ℕ
  pub run : IsRunTo number start turns after

-- the settling did
pub record IsFullSettling (number : ℕ) (start after : RunParts) : Type 0 where
  pub played : RunParts
  pub is_played : IsPlayed number start played
  pub settled : IsSettled played after

-- where the run met it
pub data IsFullWhere (number : ℕ) (start after : RunParts) : Type 0 where
  turning : IsFullTurn number start after → IsFullWhere number start after
  settling : IsFullSettling number start after → IsFullWhere number start after

-- the run of the number, where it ends before a step that is due an entry in a log without room
pub record IsFullSchedule (number : ℕ) (start after : RunParts) : Type 0 where
  pub met : IsFullWhere number start after
  pub full : after.full ≡ true
