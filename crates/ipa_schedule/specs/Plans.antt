-- How far a schedule has come, and whether a turn is left.
--
--   HasOneLeft w          a session has a request left
--   place_after size place   the next place in a round
--   IsPlanAt w k plan     k turns were begun: so many are still to be drawn, and this is the place in the round
--   IsPlanned w plan      so it is for some number of turns
--   IsOn w plan           a turn is left
--   IsAtEnd w plan        none is: all turns to be drawn were drawn, the rounds are whole, and no request is left
--   IsDrawn plan after    a turn was drawn
--   IsGoneOn plan turn after    the next turn of a round is taken
--   IsNext plan turn after      one of the two
--   IsTurnAt number k r after   the k-th turn is taken
--   Plays result full P Q       to the end, and P holds; or until a log was without room, and Q holds; or memory was wanting
use Rattle.std.specs.Prelude.{◌≡◌, ℕ, ◌+◌, ◌*◌, ◌<◌, nat_lt, Bool, true, false, length, slice_get, Some, Result, Ok, Err, if◌then◌else◌}
use Rattle.ipa_world.specs.Worlds.{SeatParts, WorldParts}
use Rattle.ipa_world.specs.Lawful.{HasNoneLeft}
use Rattle.ipa_world.specs.declared.steps.WorldFault.{WorldFault}
use Rattle.ipa_world.specs.declared.steps.WorldFault.TheVariants.{Full, NoMemory}
use Rattle.ipa_schedule.specs.Going.{RunParts}
use Rattle.ipa_schedule.specs.Turns.{IsTurn}
use Rattle.ipa_schedule.specs.Draws.{IsDrawing}
use Rattle.ipa_schedule.specs.Schedules.{round_of, drawn, turn_at}
use Rattle.ipa_schedule.specs.declared.turns.Turn.{Turn}
use Rattle.ipa_schedule.specs.declared.plan.Plan.{Plan}

-- a session has a request left
pub record HasOneLeft (w : WorldParts) : Type 0 where
  pub session : ℕ
  pub seat : SeatParts
  pub seat_at : slice_get w.seats session ≡ Some seat
  pub asks : length seat.outcomes < length seat.requests

-- the next place in a round of this length
abbrev pub place_after : ℕ → ℕ → ℕ
place_after size place = if nat_lt (place + 1) size then place + 1 else 0

-- k turns were begun: some were drawn, so many are still to be drawn, and then some rounds were whole and a next one has
-- come to this place
pub record IsPlanAt (w : WorldParts) (k : ℕ) (plan : Plan) : Type 0 where
  pub round : plan.round.items ≡ round_of w
  pub taken : ℕ
  pub rounds : ℕ
  pub all : taken + plan.left ≡ drawn plan.number w
  pub words : IsDrawing plan.number taken plan.words
  pub turns : k ≡ taken + rounds * length plan.round.items + plan.place
  pub unrounded : 0 < plan.left → rounds ≡ 0
  pub unplaced : 0 < plan.left → plan.place ≡ 0
  pub some : 0 < plan.left → 0 < length plan.round.items
  pub inside : 0 < plan.place → plan.place < length plan.round.items

-- so it is for some number of turns
pub record IsPlanned (w : WorldParts) (plan : Plan) : Type 0 where
  pub begun : ℕ
  pub at : IsPlanAt w begun plan

-- a turn is left: one is to be drawn, a round is under way, or a session has a request left
pub data IsOn (w : WorldParts) (plan : Plan) : Type 0 where
  drawing : 0 < plan.left → IsOn w plan
  inside : plan.left ≡ 0 → 0 < plan.place → IsOn w plan
  asked : plan.left ≡ 0 → plan.place ≡ 0 → HasOneLeft w → IsOn w plan

-- no turn is left
pub record IsAtEnd (w : WorldParts) (plan : Plan) : Type 0 where
  pub left : plan.left ≡ 0
  pub place : plan.place ≡ 0
  pub done : HasNoneLeft w

-- a turn was drawn
pub record IsDrawn (plan after : Plan) : Type 0 where
  pub number : after.number ≡ plan.number
  pub round : after.round.items ≡ plan.round.items
  pub left : after.left + 1 ≡ plan.left
  pub place : after.place ≡ plan.place
  pub words : (k : ℕ) → IsDrawing plan.number k plan.words → IsDrawing plan.number (k + 1) after.words

-- the next turn of a round is taken
pub record IsGoneOn (plan : Plan) (turn : Turn) (after : Plan) : Type 0 where
  pub number : after.number ≡ plan.number
  pub round : after.round.items ≡ plan.round.items
  pub none : plan.left ≡ 0
  pub left : after.left ≡ 0
  pub words : after.words ≡ plan.words
  pub turn_at : slice_get plan.round.items plan.place ≡ Some turn
  pub place : after.place ≡ place_after (length plan.round.items) plan.place

-- one of the two
pub data IsNext (plan : Plan) (turn : Turn) (after : Plan) : Type 0 where
  draws : IsDrawn plan after → IsNext plan turn after
  goes_on : IsGoneOn plan turn after → IsNext plan turn after

-- the k-th turn is taken
pub record IsTurnAt (number k : ℕ) (r after : RunParts) : Type 0 where
  pub turn : Turn
  pub turn_is : turn_at number r.world k ≡ Some turn
  pub taken : IsTurn r turn after

-- to the end, and P holds; or until a log was without room, and Q holds; or memory was wanting
abbrev pub Plays : {T : Type 0} → Result T WorldFault → Bool → Type 0 → Type 0 → Type 0
Plays (Ok x) full P Q = P × (full ≡ false)
Plays (Err Full) full P Q = Q × (full ≡ true)
Plays (Err NoMemory) full P Q = Unit {0}
