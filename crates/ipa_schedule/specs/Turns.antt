-- The turns of a run.
--
--   IsCalmIn w i, IsDueIn w i     no drop is due where the session stands; one is
--   IsDropping r i r'     a session makes one drop after the other, until none is due
--   IsSessionTurn r i r'  a session pulls, makes the drops that are due, and its next request is answered
--   carried_in t          the frame that carries a transaction
--   IsLinkTurn r from to r'    the first entries that the receiver may lack are sent as frames, the link's weather gives each
--                         its fate, what arrives is given to the receiver, and the sender hears what the receiver has then
--   IsTurn r turn r'      a turn
use Rattle.std.specs.Prelude.{◌≡◌, ℕ, true, false, List, [], ◌∷◌, ◌++◌, length, map, slice_get, slice_set, Some}
use Rattle.ipa_clock.specs.declared.cut.Cut.{Cut}
use Rattle.ipa_history.specs.Histories.{IsMember}
use Rattle.ipa_history.specs.Clocks.{IsClockOf}
use Rattle.ipa_history.specs.declared.history.Tx.{Tx}
use Rattle.ipa_history.specs.declared.outcomes.Fate.{Fate}
use Rattle.ipa_gate.specs.Agreements.{beyond_of}
use Rattle.ipa_session.specs.Sessions.{IsDueNext}
use Rattle.ipa_frame.specs.Frames.{frame_bytes}
use Rattle.ipa_frame.specs.declared.frame.Frame.TheVariants.{Carry}
use Rattle.ipa_weather.specs.Arrivals.{Frame, arrivals_of, held_of}
use Rattle.ipa_world.specs.Worlds.{WorldParts, link_of, session_at}
use Rattle.ipa_world.specs.Steps.{Actor, IsActor, IsCalm}
use Rattle.ipa_world.specs.declared.steps.Step.TheVariants.{Pull, Act, Heard}
use Rattle.ipa_schedule.specs.Going.{RunParts, IsMoved, IsOfferedAll, IsStopped}
use Rattle.ipa_schedule.specs.declared.turns.Turn.{Turn}
use Rattle.ipa_schedule.specs.declared.turns.Turn.TheVariants.{Session, Link}

-- no drop is due where the session stands
pub record IsCalmIn (w : WorldParts) (i : ℕ) : Type 0 where
  pub actor : Actor
  pub is_actor : IsActor w i actor
  pub calm : IsCalm w i actor

-- a drop is due where the session stands
pub record IsDueIn (w : WorldParts) (i : ℕ) : Type 0 where
  pub actor : Actor
  pub is_actor : IsActor w i actor
  pub tx : Tx
  pub due : IsDueNext (session_at w.setting i actor.seat) actor.cut tx

-- no drop is due, and nothing changes
pub record IsDoneDropping (r : RunParts) (i : ℕ) (after : RunParts) : Type 0 where
  pub going : r.full ≡ false
  pub calm : IsCalmIn r.world i
  pub after_is : after ≡ r

-- a session makes one drop after the other, until none is due
pub data IsDropping : RunParts → ℕ → RunParts → Type 0 where
  done : (r : RunParts) (i : ℕ) (after : RunParts) → IsDoneDropping r i after → IsDropping r i after
  drops : (r : RunParts) (i : ℕ) (next after : RunParts) → r.full ≡ false → IsDueIn r.world i → IsMoved r (Act i) next →
      IsDropping next i after → IsDropping r i after
  stopped : (r : RunParts) (i : ℕ) (after : RunParts) → IsStopped r after → IsDropping r i after

-- a session pulls, makes the drops that are due, and then its next request is answered, if one is left
pub record IsSessionTurn (r : RunParts) (i : ℕ) (after : RunParts) : Type 0 where
  pub pulled : RunParts
  pub pull : IsMoved r (Pull i) pulled
  pub calmed : RunParts
  pub drops : IsDropping pulled i calmed
  pub act : IsMoved calmed (Act i) after

-- the frame that carries the transaction
abbrev pub carried_in : Tx → Frame
carried_in t = frame_bytes (Carry t)

abbrev pub carried_all : List Tx → List Frame
carried_all ts = map carried_in ts

-- the run with other frames held on a link, and with more fates given there
abbrev pub with_fates : RunParts → ℕ → List Frame → List Fate → RunParts
with_fates r link held fates = record {
  world = r.world;
  held = slice_set r.held link held;
  fates = slice_set r.fates link fates;
  full = r.full;
}

-- the sender of the link hears the clock of the receiver
pub record IsHearing (r : RunParts) (from to : ℕ) (after : RunParts) : Type 0 where
  pub log : List Tx
  pub log_at : slice_get r.world.logs to ≡ Some log
  pub clock : Cut
  pub clock_is : IsClockOf log clock
  pub heard : IsMoved r (Heard from to clock) after

-- what a link has before its turn: the sender's log, what the sender knows, the frames held, and the fates given so far
pub record IsLinkAt (r : RunParts) (from to : ℕ) (log : List Tx) (known : Cut) (held : List Frame) (given : List Fate) :
    Type 0 where
  pub log_at : slice_get r.world.logs from ≡ Some log
  pub known_at : slice_get r.world.peers (link_of from to) ≡ Some known
  pub held_at : slice_get r.held (link_of from to) ≡ Some held
  pub given_at : slice_get r.fates (link_of from to) ≡ Some given

-- the first entries that the receiver may lack are sent as frames, each meets one fate of the link's weather, and what
-- arrives, the frames that were held before last, are entries of the sender's log, which are given to the receiver; then the sender hears what the receiver has
pub record IsLinkTurn (r : RunParts) (from to : ℕ) (after : RunParts) : Type 0 where
  pub log : List Tx
  pub known : Cut
  pub held : List Frame
  pub given : List Fate
  pub link : IsLinkAt r from to log known held given
  pub fates : List Fate
  pub each : length fates ≡ length (beyond_of log known)
  pub arrived : List Tx
  pub entries : (t : Tx) → IsMember arrived t → IsMember log t
  pub arrived_are : carried_all arrived ≡ arrivals_of fates (carried_all (beyond_of log known)) held
  pub offered : RunParts
  pub offers : IsOfferedAll
      (with_fates r (link_of from to) (held_of fates (carried_all (beyond_of log known))) (given ++ fates)) to arrived offered
  pub hears : IsHearing offered from to after

-- a turn
abbrev pub IsTurn : RunParts → Turn → RunParts → Type 0
IsTurn r (Session session) after = IsSessionTurn r session after
IsTurn r (Link from to) after = IsLinkTurn r from to after
