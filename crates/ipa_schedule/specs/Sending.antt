-- What is sent over a link.
--
--   IsPassedOver p q link frames arrived    the frames were passed through the link's weather
--   IsHeldAfter p q link frames         what is held then, also where memory was wanting
--   IsSent w p q from to arrived        the first entries that the receiver may lack were sent, and this arrived
use Rattle.std.specs.Prelude.{◌≡◌, ℕ, List, ◌++◌, length, slice_get, slice_set, Some}
use Rattle.ipa_clock.specs.declared.cut.Cut.{Cut}
use Rattle.ipa_history.specs.Histories.{IsMember}
use Rattle.ipa_history.specs.declared.history.Tx.{Tx}
use Rattle.ipa_history.specs.declared.outcomes.Fate.{Fate}
use Rattle.ipa_gate.specs.Agreements.{beyond_of}
use Rattle.ipa_weather.specs.Arrivals.{Frame, arrivals_of, held_of}
use Rattle.ipa_world.specs.Worlds.{WorldParts, link_of}
use Rattle.ipa_schedule.specs.Turns.{carried_all, with_fates, IsLinkAt}
use Rattle.ipa_schedule.specs.Running.{IsFrameOf, run_of}
use Rattle.ipa_schedule.specs.declared.progress.Progress.{Progress}

-- the frames were passed through the link's weather, each with a fate, and this arrived
pub record IsPassedOver (p q : Progress) (link : ℕ) (frames arrived : List Frame) : Type 0 where
  pub held : List Frame
  pub held_at : slice_get p.held.items link ≡ Some held
  pub given : List Fate
  pub given_at : slice_get p.fates link ≡ Some given
  pub fates : List Fate
  pub each : length fates ≡ length frames
  pub arrived_are : arrived ≡ arrivals_of fates frames held
  pub held_are : q.held.items ≡ slice_set p.held.items link (held_of fates frames)
  pub fates_are : q.fates ≡ slice_set p.fates link (given ++ fates)

-- the frame was held on the link before, or the link is this one and the frame is one of these
pub data IsHeldFrom (p : Progress) (link : ℕ) (frames : List Frame) (i : ℕ) (frame : Frame) : Type 0 where
  before : (held : List Frame) → slice_get p.held.items i ≡ Some held → IsMember held frame →
      IsHeldFrom p link frames i frame
  now : i ≡ link → IsMember frames frame → IsHeldFrom p link frames i frame

-- what is held then are frames that were held there, or some of these on this link
pub record IsHeldAfter (p q : Progress) (link : ℕ) (frames : List Frame) : Type 0 where
  pub links : length q.held.items ≡ length p.held.items
  pub given : length q.fates ≡ length p.fates
  pub full : q.full ≡ p.full
  pub others : (i : ℕ) (held : List Frame) (frame : Frame) → slice_get q.held.items i ≡ Some held → IsMember held frame →
      IsHeldFrom p link frames i frame

-- the first entries that the receiver may lack were sent over the link, and this arrived, which are frames of entries
pub record IsSent (w : WorldParts) (p q : Progress) (from to : ℕ) (arrived : List Frame) : Type 0 where
  pub log : List Tx
  pub known : Cut
  pub held : List Frame
  pub given : List Fate
  pub link : IsLinkAt (run_of w p) from to log known held given
  pub fates : List Fate
  pub each : length fates ≡ length (beyond_of log known)
  pub arrived_are : arrived ≡ arrivals_of fates (carried_all (beyond_of log known)) held
  pub after : run_of w q
      ≡ with_fates (run_of w p) (link_of from to) (held_of fates (carried_all (beyond_of log known))) (given ++ fates)
  pub entries : (frame : Frame) → IsMember arrived frame → IsFrameOf log frame
