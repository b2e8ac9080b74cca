-- Runs of a world that go on from turn to turn.
--
--   RunParts              a world, the frames that each link holds, the fates that were given on each, and whether the
--                         run met a log without room
--   begun w               the run of a world in which nothing has happened
--   IsMoved r step r'     a step of the run: once a log was without room, nothing changes
--   IsOffered r to t r'   a transaction is given to a replica
--   IsOfferedAll r to ts r'     transactions are given to a replica, one after the other
use Rattle.std.specs.Prelude.{◌≡◌, ℕ, Bool, true, false, List, [], ◌∷◌, replicate}
use Rattle.ipa_history.specs.declared.history.Tx.{Tx}
use Rattle.ipa_history.specs.declared.outcomes.Fate.{Fate}
use Rattle.ipa_weather.specs.Arrivals.{Frame}
use Rattle.ipa_world.specs.Worlds.{WorldParts}
use Rattle.ipa_world.specs.Steps.{IsStep, IsGiven}
use Rattle.ipa_world.specs.Room.{IsFull, IsGiveFull, HasRoom}
use Rattle.ipa_world.specs.declared.steps.Step.{Step}

-- a world, the frames that each link holds, the fates that were given on each link, and whether a log was without room
pub record RunParts : Type 0 where
  pub world : WorldParts
  pub held : List (List Frame)
  pub fates : List (List Fate)
  pub full : Bool

-- the run of a world that holds no frame and has asked no weather
abbrev pub begun : WorldParts → RunParts
begun w = record { world = w; held = replicate 64 []; fates = replicate 64 []; full = false }

-- the run with another world
abbrev pub in_world : RunParts → WorldParts → RunParts
in_world r w = record { world = w; held = r.held; fates = r.fates; full = r.full }

-- the run once a log was without room
abbrev pub filled : RunParts → RunParts
filled r = record { world = r.world; held = r.held; fates = r.fates; full = true }

-- the step is taken, and no log has more entries then than a log can have
pub record IsGone (r : RunParts) (step : Step) (after : RunParts) : Type 0 where
  pub going : r.full ≡ false
  pub next : WorldParts
  pub step_is : IsStep r.world step next
  pub room : HasRoom next
  pub after_is : after ≡ in_world r next

-- the step is due an entry in a log without room
pub record IsFilled (r : RunParts) (step : Step) (after : RunParts) : Type 0 where
  pub going : r.full ≡ false
  pub full : IsFull r.world step
  pub after_is : after ≡ filled r

-- a log was without room, and nothing changes
pub record IsStopped (r after : RunParts) : Type 0 where
  pub full : r.full ≡ true
  pub after_is : after ≡ r

-- a step of the run
pub data IsMoved (r : RunParts) (step : Step) (after : RunParts) : Type 0 where
  goes : IsGone r step after → IsMoved r step after
  fills : IsFilled r step after → IsMoved r step after
  stopped : IsStopped r after → IsMoved r step after

-- the transaction is given to the replica, and no log has more entries then than a log can have
pub record IsPassed (r : RunParts) (to : ℕ) (t : Tx) (after : RunParts) : Type 0 where
  pub going : r.full ≡ false
  pub next : WorldParts
  pub given : IsGiven r.world to t next
  pub room : HasRoom next
  pub after_is : after ≡ in_world r next

-- the transaction is news to a replica whose log is without room
pub record IsBlocked (r : RunParts) (to : ℕ) (t : Tx) (after : RunParts) : Type 0 where
  pub going : r.full ≡ false
  pub full : IsGiveFull r.world to t
  pub after_is : after ≡ filled r

-- a transaction is given to a replica
pub data IsOffered (r : RunParts) (to : ℕ) (t : Tx) (after : RunParts) : Type 0 where
  passes : IsPassed r to t after → IsOffered r to t after
  blocks : IsBlocked r to t after → IsOffered r to t after
  stopped : IsStopped r after → IsOffered r to t after

-- transactions are given to a replica, one after the other
abbrev pub IsOfferedAll : RunParts → ℕ → List Tx → RunParts → Type 0
IsOfferedAll r to [] after = after ≡ r
IsOfferedAll r to (t ∷ ts) after = (next : RunParts) × IsOffered r to t next × IsOfferedAll next to ts after
