-- Runs on their way.
--
--   HasEntry w r t       the log of the replica has the transaction
--   requests_of w        the sessions' lists of requests
--   IsLater w after      the same setting, replicas, senders and requests, and no log has lost an entry
--   run_of w p           the run of a world that has come so far
--   Goes result full R   unless memory was wanting, R holds, and the run is without room where the answer says so
--   IsLinkOf w turn      the turn is that of a link of the world
--   IsTurnOf w turn      the turn is one of the world
--   IsExchangeTurn r turn r'    all is given over the link of the turn
--   IsFrameOf log frame  the frame carries an entry of the log
--   AreBorne log txs     these are entries of the log that frames can carry
--   UnlessWanting result R      R holds, unless memory was wanting
--   IsUnderWay w p       there are 64 links, and what is held on a link are frames of entries of its sender's log
use Rattle.std.specs.Prelude.{◌≡◌, ℕ, ◌<◌, Bool, true, false, List, length, map, slice_get, Some, Result, Ok, Err}
use Rattle.ipa_logic.specs.declared.facts.Request.{Request}
use Rattle.ipa_history.specs.Histories.{IsMember}
use Rattle.ipa_history.specs.declared.history.Tx.{Tx}
use Rattle.ipa_frame.specs.Frames.{IsFrame}
use Rattle.ipa_frame.specs.declared.frame.Frame.TheVariants.{Carry}
use Rattle.ipa_weather.specs.Arrivals.{Frame}
use Rattle.ipa_world.specs.Worlds.{SeatParts, WorldParts, link_of}
use Rattle.ipa_world.specs.Steps.{IsLink}
use Rattle.ipa_world.specs.declared.steps.WorldFault.{WorldFault}
use Rattle.ipa_world.specs.declared.steps.WorldFault.TheVariants.{Full, NoMemory}
use Rattle.ipa_schedule.specs.Going.{RunParts}
use Rattle.ipa_schedule.specs.Turns.{carried_in}
use Rattle.ipa_schedule.specs.Schedules.{IsExchangeOver}
use Rattle.ipa_schedule.specs.declared.turns.Turn.{Turn}
use Rattle.ipa_schedule.specs.declared.turns.Turn.TheVariants.{Session, Link}
use Rattle.ipa_schedule.specs.declared.progress.Progress.{Progress}

-- the log of the replica has the transaction
pub record HasEntry (w : WorldParts) (r : ℕ) (t : Tx) : Type 0 where
  pub log : List Tx
  pub log_at : slice_get w.logs r ≡ Some log
  pub member : IsMember log t

-- the sessions' lists of requests
abbrev pub requests_of : WorldParts → List (List Request)
requests_of w = map (λ (seat : SeatParts). seat.requests) w.seats

-- the same setting, replicas, senders and requests, and no log has lost an entry
pub record IsLater (w after : WorldParts) : Type 0 where
  pub setting : after.setting ≡ w.setting
  pub replicas : length after.logs ≡ length w.logs
  pub senders : length after.peers ≡ length w.peers
  pub sessions : length after.seats ≡ length w.seats
  pub requests : requests_of after ≡ requests_of w
  pub entries : (r : ℕ) (t : Tx) → HasEntry w r t → HasEntry after r t

-- the run of a world that has come so far
abbrev pub run_of : WorldParts → Progress → RunParts
run_of w p = record { world = w; held = p.held.items; fates = p.fates; full = p.full }

-- unless memory was wanting, R holds, and the run is without room where the answer says so
abbrev pub Fails : WorldFault → Bool → Type 0 → Type 0
Fails Full full R = R × (full ≡ true)
Fails NoMemory full R = full ≡ false

abbrev pub Goes : {T : Type 0} → Result T WorldFault → Bool → Type 0 → Type 0
Goes (Ok x) full R = R × (full ≡ false)
Goes (Err fault) full R = Fails fault full R

-- the frame carries an entry of the log
pub record IsFrameOf (log : List Tx) (frame : Frame) : Type 0 where
  pub tx : Tx
  pub member : IsMember log tx
  pub is : frame ≡ carried_in tx
  pub framed : IsFrame (Carry tx)

-- the transactions are entries of the log, and a frame can carry each
pub record AreBorne (log txs : List Tx) : Type 0 where
  pub entries : (t : Tx) → IsMember txs t → IsMember log t
  pub framed : (t : Tx) → IsMember txs t → IsFrame (Carry t)

-- R holds, unless memory was wanting
abbrev pub UnlessWanting : {T : Type 0} → Result T WorldFault → Type 0 → Type 0
UnlessWanting (Ok x) R = R
UnlessWanting (Err Full) R = R
UnlessWanting (Err NoMemory) R = Unit {0}

-- there are 64 links, and what is held on a link are frames of entries of its sender's log
pub record IsUnderWay (w : WorldParts) (p : Progress) : Type 0 where
  pub links : length p.held.items ≡ 64
  pub given : length p.fates ≡ 64
  pub held : (from to : ℕ) (log : List Tx) (frames : List Frame) (frame : Frame) → to < 8 →
      slice_get w.logs from ≡ Some log → slice_get p.held.items (link_of from to) ≡ Some frames →
      IsMember frames frame → IsFrameOf log frame

-- the turn is that of a link of the world
abbrev pub IsLinkOf : WorldParts → Turn → Type 0
IsLinkOf w (Link from to) = IsLink w from to
IsLinkOf w (Session session) = ⊥

-- the session, or the two replicas, of the turn exist
abbrev pub IsTurnOf : WorldParts → Turn → Type 0
IsTurnOf w (Session session) = session < length w.seats
IsTurnOf w (Link from to) = IsLink w from to

-- all that the sender's log has is given over the link of the turn
abbrev pub IsExchangeTurn : RunParts → Turn → RunParts → Type 0
IsExchangeTurn r (Link from to) after = IsExchangeOver r from to after
IsExchangeTurn r (Session session) after = ⊥
