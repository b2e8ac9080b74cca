-- The turns of a schedule, one after the other.
--
--   IsPlaying ..         the first turns were taken, and the fates are the weathers' own
--   run_more             a run with one turn more
--   plays_none, plays_more      no turn, and one more
--   plays_full           a turn that met a log without room
--   plays_done           all turns
use Rattle.std.proofs.Common.{◌≡◌, ℕ, zero, suc, ◌+◌, ◌-◌, Bool, true, false, List, [], ◌∷◌, length, Some, slice_get, refl, sym, ◌∙◌, ap, subst, arith}
use Rattle.ipa_history.specs.declared.outcomes.Fate.{Fate}
use Rattle.ipa_world.specs.Worlds.{WorldParts}
use Rattle.ipa_schedule.specs.Going.{RunParts}
use Rattle.ipa_schedule.specs.Forecasts.{HaveGone}
use Rattle.ipa_schedule.specs.Running.{IsLater, IsUnderWay, run_of}
use Rattle.ipa_schedule.specs.Schedules.{IsOver, IsRunTo, IsPlayed, IsFullTurn, turn_at}
use Rattle.ipa_schedule.specs.Schedules.IsRunTo.{begins, turns}
use Rattle.ipa_schedule.specs.Plans.{IsPlanAt, IsOn, IsAtEnd, IsTurnAt}
use Rattle.ipa_schedule.specs.declared.progress.Progress.{Progress}
use Rattle.ipa_schedule.specs.declared.plan.Plan.{Plan}
use Rattle.ipa_schedule.proofs.Later.{later_itself, later_along}
use Rattle.ipa_schedule.proofs.Gone.{gone_none, gone_along}
use Rattle.ipa_schedule.proofs.Planning.{over_at_end, on_not_over}

-- the first turns of the schedule were taken, and the fates that were given are the weathers' own
pub record IsPlaying {X : Type 0} (due : X → ℕ → Fate) (asked : X → ℕ) (w : WorldParts) (p : Progress) (plan : Plan)
    (were : List X) (now : WorldParts) (so_far : Progress) (since : Plan) (are : List X) : Type 0 where
  pub going : so_far.full ≡ false
  pub way : IsUnderWay now so_far
  pub later : IsLater w now
  pub number : since.number ≡ plan.number
  pub taken : ℕ
  pub run : IsRunTo plan.number (run_of w p) taken (run_of now so_far)
  pub at : IsPlanAt now taken since
  pub weathers : length are ≡ 64
  pub gone : HaveGone due asked were are p.fates so_far.fates

-- a run with one turn more
pub run_more : (number : ℕ) (start : RunParts) (k : ℕ) (before after : RunParts) (plan : Plan) →
    IsRunTo number start k before → before.full ≡ false → plan.number ≡ number → IsPlanAt before.world k plan →
    IsOn before.world plan → IsTurnAt plan.number k before after → IsRunTo number start (suc k) after
run_more number start k before after plan run going same at on turned = turns k turned.turn before after run going
    (λ over. on_not_over before.world k plan at on (subst (λ (n : ℕ). IsOver n k before.world) (sym same) over))
    (subst (λ (n : ℕ). turn_at n before.world k ≡ Some turned.turn) same turned.turn_is) turned.taken

-- no turn
pub plays_none : {X : Type 0} (due : X → ℕ → Fate) (asked : X → ℕ) (w : WorldParts) (p : Progress) (plan : Plan)
    (were : List X) → p.full ≡ false → IsUnderWay w p → IsPlanAt w 0 plan → length were ≡ 64 →
    IsPlaying due asked w p plan were w p plan were
plays_none due asked w p plan were going way at size = record {
  going = going;
  way = way;
  later = later_itself w;
  number = refl;
  taken = 0;
  run = begins (run_of w p) refl;
  at = at;
  weathers = size;
  gone = gone_none due asked were p.fates;
}

module _ {X : Type 0} (due : X → ℕ → Fate) (asked : X → ℕ) (w : WorldParts) (p : Progress) (plan : Plan)
    (were : List X) (now : WorldParts) (so_far : Progress) (since : Plan) (are : List X)
    (is : IsPlaying due asked w p plan were now so_far since are) where
  -- all turns
  pub plays_done : IsAtEnd now since → IsPlayed plan.number (run_of w p) (run_of now so_far)
  plays_done end = record {
    turns = is.taken;
    run = is.run;
    going = is.going;
    over = subst (λ (n : ℕ). IsOver n is.taken now) is.number (over_at_end now is.taken since is.at end);
  }

  module _ (on : IsOn now since) (next : WorldParts) (more : Progress)
      (turned : IsTurnAt since.number is.taken (run_of now so_far) (run_of next more)) where
    -- the run with one turn more
    runs_on : IsRunTo plan.number (run_of w p) (suc is.taken) (run_of next more)
    runs_on = run_more plan.number (run_of w p) is.taken (run_of now so_far) (run_of next more) since is.run is.going
        is.number is.at on turned

    -- a turn that met a log without room
    pub plays_full : IsFullTurn plan.number (run_of w p) (run_of next more)
    plays_full = record { turns = suc is.taken; run = runs_on }

    -- one turn more
    pub plays_more : (after : Plan) (will : List X) → more.full ≡ false → IsUnderWay next more → IsLater now next →
        after.number ≡ since.number → IsPlanAt next (is.taken + 1) after → length will ≡ 64 →
        HaveGone due asked are will so_far.fates more.fates →
        IsPlaying due asked w p plan were next more after will
    plays_more after will going way later number at size gone = record {
      going = going;
      way = way;
      later = later_along w now next is.later later;
      number = number ∙ is.number;
      taken = suc is.taken;
      run = runs_on;
      at = subst (λ (k : ℕ). IsPlanAt next k after) (omega arith) at;
      weathers = size;
      gone = gone_along due asked were are will p.fates so_far.fates more.fates is.gone gone;
    }
