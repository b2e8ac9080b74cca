-- Drops that are made one after the other.
--
--   IsFalling w p i now so_far   what was done so far: what is still to be done makes the whole
--   falls_more                   and one drop more
use Rattle.std.proofs.Common.{◌≡◌, ℕ, true, false, refl, ◌∙◌}
use Rattle.ipa_world.specs.Worlds.{WorldParts}
use Rattle.ipa_world.specs.declared.steps.Step.TheVariants.{Pull, Act}
use Rattle.ipa_schedule.specs.Going.{RunParts, IsMoved}
use Rattle.ipa_schedule.specs.Going.IsMoved.{stopped as halted}
use Rattle.ipa_schedule.specs.Turns.{IsDueIn, IsCalmIn, IsDropping, IsSessionTurn}
use Rattle.ipa_schedule.specs.Turns.IsDropping.{done, drops, stopped}
use Rattle.ipa_schedule.specs.Running.{IsLater, IsUnderWay, run_of}
use Rattle.ipa_schedule.specs.declared.progress.Progress.{Progress}
use Rattle.ipa_schedule.proofs.Later.{later_along}

-- the run goes on, and what is still to be done makes the whole
pub record IsFalling (w : WorldParts) (p : Progress) (i : ℕ) (now : WorldParts) (so_far : Progress) : Type 0 where
  pub going : so_far.full ≡ false
  pub way : IsUnderWay now so_far
  pub later : IsLater w now
  pub fates : so_far.fates ≡ p.fates
  pub rest : (after : RunParts) → IsDropping (run_of now so_far) i after → IsDropping (run_of w p) i after

module _ (w : WorldParts) (p : Progress) (i : ℕ) (now : WorldParts) (so_far : Progress)
    (is : IsFalling w p i now so_far) (due : IsDueIn now i) where
  -- a drop and what is to be done after it
  pub falls_one : (next : WorldParts) (more : Progress) → IsMoved (run_of now so_far) (Act i) (run_of next more) →
      (after : RunParts) → IsDropping (run_of next more) i after → IsDropping (run_of w p) i after
  falls_one next more moved after rest =
      is.rest after (drops (run_of now so_far) i (run_of next more) after is.going due moved rest)

  -- and one drop more
  pub falls_more : (next : WorldParts) (more : Progress) → IsMoved (run_of now so_far) (Act i) (run_of next more) →
      more.full ≡ false → IsUnderWay next more → IsLater now next → more.fates ≡ so_far.fates →
      IsFalling w p i next more
  falls_more next more moved going way later fates = record {
    going = going;
    way = way;
    later = later_along w now next is.later later;
    fates = fates ∙ is.fates;
    rest = falls_one next more moved;
  }

  -- or no room for it
  pub falls_full : (next : WorldParts) (more : Progress) → IsMoved (run_of now so_far) (Act i) (run_of next more) →
      more.full ≡ true → IsDropping (run_of w p) i (run_of next more)
  falls_full next more moved full = falls_one next more moved (run_of next more)
      (stopped (run_of next more) i (run_of next more) (record { full = full; after_is = refl }))

-- at the end no drop is due
pub falls_done : (w : WorldParts) (p : Progress) (i : ℕ) (now : WorldParts) (so_far : Progress) →
    IsFalling w p i now so_far → IsCalmIn now i → IsDropping (run_of w p) i (run_of now so_far)
falls_done w p i now so_far is calm = is.rest (run_of now so_far) (done (run_of now so_far) i (run_of now so_far)
    (record { going = is.going; calm = calm; after_is = refl }))

-- a session's turn that ends early
pub turn_unpulled : (r : RunParts) (i : ℕ) (after : RunParts) → IsMoved r (Pull i) after → after.full ≡ true →
    IsSessionTurn r i after
turn_unpulled r i after pull full = record {
  pulled = after;
  pull = pull;
  calmed = after;
  drops = stopped after i after (record { full = full; after_is = refl });
  act = halted (record { full = full; after_is = refl });
}

pub turn_uncalmed : (r : RunParts) (i : ℕ) (pulled after : RunParts) → IsMoved r (Pull i) pulled →
    IsDropping pulled i after → after.full ≡ true → IsSessionTurn r i after
turn_uncalmed r i pulled after pull falling full = record {
  pulled = pulled;
  pull = pull;
  calmed = after;
  drops = falling;
  act = halted (record { full = full; after_is = refl });
}
