-- What a schedule comes to.
--
--   plays_err, plays_turned, plays_settled     a part that ends early, a turn that does, and a settling
--   unless_err, ok_from_goes     R holds unless memory was wanting, and where all went well
--   unless_from          the same fates, by another name
--   forecast_begun       the fates since the beginning
--   ready_next           a run is ready still after a turn
--   scheduled_end, scheduled_lawful, scheduled_full     the end of a schedule, and a schedule that is full
use Rattle.std.proofs.Common.{◌≡◌, ℕ, ◌+◌, ◌<◌, Bool, true, false, List, [], length, map, replicate, Some, slice_get, Result, Ok, Err, refl, sym, ◌∙◌, ap, subst, arith}
use Rattle.std.specs.Prelude.{OnOk}
use Rattle.std.specs.Result.{IsErrAnd}
use Rattle.ipa_logic.specs.Facts.{IsStateOf}
use Rattle.ipa_logic.specs.declared.facts.Fact.{Fact}
use Rattle.ipa_history.specs.Values.{value_of}
use Rattle.ipa_history.specs.declared.history.Tx.{Tx}
use Rattle.ipa_history.specs.declared.outcomes.Outcome.{Outcome}
use Rattle.ipa_history.specs.declared.outcomes.Fate.{Fate}
use Rattle.ipa_history.specs.declared.outcomes.SimEnd.{SimEnd}
use Rattle.ipa_world.specs.Worlds.{SeatParts, WorldParts}
use Rattle.ipa_world.specs.Lawful.{IsLawful}
use Rattle.ipa_world.specs.declared.steps.WorldFault.{WorldFault}
use Rattle.ipa_world.specs.declared.steps.WorldFault.TheVariants.{Full, NoMemory}
use Rattle.ipa_schedule.specs.Going.{RunParts, begun}
use Rattle.ipa_schedule.specs.Ends.{IsEndOf, IsLawfulFor, IsEndOfSchedule, IsFullOf}
use Rattle.ipa_schedule.specs.Forecasts.{AreForecast, HaveGone}
use Rattle.ipa_schedule.specs.Plans.{IsPlanAt, Plays}
use Rattle.ipa_schedule.specs.Runs.{IsReady}
use Rattle.ipa_schedule.specs.Running.{Fails, Goes, IsLater, IsUnderWay, UnlessWanting, run_of}
use Rattle.ipa_schedule.specs.Schedules.{IsScheduled, IsFullWhere, IsFullSchedule}
use Rattle.ipa_schedule.specs.declared.plan.Plan.{Plan}
use Rattle.ipa_schedule.specs.declared.progress.Progress.{Progress}
use Rattle.ipa_schedule.proofs.Ending.{end_settled}
use Rattle.ipa_schedule.proofs.Gone.{forecast_all}
use Rattle.ipa_schedule.proofs.Parts.{part_run}

-- a part that ends early
pub plays_err : (A : Type 0) {B : Type 0} (result : Result B WorldFault) (fault : WorldFault) (full : Bool) (P Q R S : Type 0) →
    IsErrAnd result (λ (e : WorldFault). e ≡ fault) → Plays {T = A} (Err fault) full P Q → (Q → S) → Plays result full R S
plays_err A (Ok x) fault full P Q R S is played whole = absurd is
plays_err A (Err Full) Full full P Q R S is played whole = (whole played.0, played.1)
plays_err A (Err Full) NoMemory full P Q R S is played whole = absurd (let e : Full ≡ NoMemory = is in cc)
plays_err A (Err NoMemory) fault full P Q R S is played whole = tt

-- a turn that does
pub plays_turned : {T : Type 0} (result : Result T WorldFault) (fault : WorldFault) (full : Bool) (P R S : Type 0) →
    IsErrAnd result (λ (e : WorldFault). e ≡ fault) → Fails fault full P → (P → S) → Plays result full R S
plays_turned (Ok x) fault full P R S is failed whole = absurd is
plays_turned (Err Full) Full full P R S is failed whole = (whole failed.0, failed.1)
plays_turned (Err Full) NoMemory full P R S is failed whole = absurd (let e : Full ≡ NoMemory = is in cc)
plays_turned (Err NoMemory) fault full P R S is failed whole = tt

-- what a call has left where a log was without room
pub full_of : (fault : WorldFault) (full : Bool) (P Q : Type 0) → fault ≡ Full → Plays {T = Unit {0}} (Err fault) full P Q →
    Q × (full ≡ true)
full_of Full full P Q is played = played
full_of NoMemory full P Q is played = absurd (let e : NoMemory ≡ Full = is in cc)

pub unless_full : (fault : WorldFault) (P : Type 0) → fault ≡ Full → UnlessWanting {T = Unit {0}} (Err fault) P → P
unless_full Full P is unless = unless
unless_full NoMemory P is unless = absurd (let e : NoMemory ≡ Full = is in cc)

-- a settling
pub plays_settled : {T : Type 0} (result : Result T WorldFault) (full : Bool) (P R S : Type 0) → Goes result full P →
    (P → full ≡ false → R) → (P → full ≡ true → S) → Plays result full R S
plays_settled (Ok x) full P R S goes ends fills = (ends goes.0 goes.1, goes.1)
plays_settled (Err Full) full P R S goes ends fills = (fills goes.0 goes.1, goes.1)
plays_settled (Err NoMemory) full P R S goes ends fills = tt

-- R holds unless memory was wanting
pub unless_err : (A : Type 0) {B : Type 0} (result : Result B WorldFault) (fault : WorldFault) (P R : Type 0) →
    IsErrAnd result (λ (e : WorldFault). e ≡ fault) → UnlessWanting {T = A} (Err fault) P → (P → R) → UnlessWanting result R
unless_err A (Ok x) fault P R is unless whole = absurd is
unless_err A (Err Full) Full P R is unless whole = whole unless
unless_err A (Err Full) NoMemory P R is unless whole = absurd (let e : Full ≡ NoMemory = is in cc)
unless_err A (Err NoMemory) fault P R is unless whole = tt

pub ok_from_goes : {T : Type 0} (result : Result T WorldFault) (full : Bool) (P R : Type 0) → Goes result full P →
    (P → full ≡ false → R) → OnOk result R
ok_from_goes (Ok x) full P R goes whole = whole goes.0 goes.1
ok_from_goes (Err fault) full P R goes whole = tt

pub unless_whole : {T : Type 0} (result : Result T WorldFault) (P R : Type 0) → UnlessWanting result P → (P → R) →
    UnlessWanting result R
unless_whole (Ok x) P R unless whole = whole unless
unless_whole (Err Full) P R unless whole = whole unless
unless_whole (Err NoMemory) P R unless whole = tt

-- the end of a run, by its world
pub end_is : (w : WorldParts) (end : SimEnd) → slice_get w.logs 0 ≡ Some end.entries →
    end.outcomes ≡ map (λ (seat : SeatParts). seat.outcomes) w.seats →
    IsStateOf (value_of w.setting.spec w.setting.base end.entries) end.last → (r : RunParts) → r.world ≡ w →
    r.fates ≡ end.fates → IsEndOf r end
end_is w end entries outcomes last r world fates = record {
  entries = subst (λ (v : WorldParts). slice_get v.logs 0 ≡ Some end.entries) (sym world) entries;
  outcomes = subst (λ (v : WorldParts). end.outcomes ≡ map (λ (seat : SeatParts). seat.outcomes) v.seats) (sym world)
      outcomes;
  fates = sym fates;
  last = subst (λ (v : WorldParts). IsStateOf (value_of v.setting.spec v.setting.base end.entries) end.last) (sym world)
      last;
}

-- the same fates, by another name
pub unless_from : {X T : Type 0} (due : X → ℕ → Fate) (asked : X → ℕ) (were are : List X) (old given new : List (List Fate))
    (result : Result T WorldFault) → old ≡ given → UnlessWanting result (HaveGone due asked were are old new) →
    UnlessWanting result (HaveGone due asked were are given new)
unless_from due asked were are old given new result same =
    subst (λ (fs : List (List Fate)). UnlessWanting result (HaveGone due asked were are fs new)) same

-- the fates since the beginning
pub forecast_begun : {X : Type 0} (due : X → ℕ → Fate) (asked : X → ℕ) (were are : List X) (w v : WorldParts) (p : Progress)
    (fates list : List (List Fate)) → length were ≡ 64 → run_of w p ≡ begun v → list ≡ fates →
    HaveGone due asked were are p.fates fates → AreForecast due asked were are list
forecast_begun due asked were are w v p fates list size is_begun same gone =
    subst (λ (fs : List (List Fate)). AreForecast due asked were are fs) (sym same)
    (forecast_all due asked were are fates size
    (subst (λ (fs : List (List Fate)). HaveGone due asked were are fs fates)
    (ap (λ (r : RunParts). r.fates) is_begun) gone))

-- a run is ready still after a turn
pub ready_next : (w : WorldParts) (p : Progress) (plan : Plan) (next : WorldParts) (q : Progress) (after : Plan) →
    IsReady w p plan → IsLater w next → IsUnderWay next q →
    ((k : ℕ) → IsPlanAt w k plan → IsPlanAt next (k + 1) after) → IsReady next q after
ready_next w p plan next q after is later way planned =
    let some = is.some in
    let same = later.replicas in
    record {
      some = omega (arith, some, same);
      way = way;
      planned = record { begun = is.planned.begun + 1; at = planned is.planned.begun is.planned.at };
    }

module _ (number : ℕ) (w : WorldParts) (p : Progress) (n : ℕ) (after : WorldParts) (q : Progress)
    (is_number : n ≡ number) (is_begun : run_of w p ≡ begun w) where
  -- the run of the schedule, from its beginning
  from_begun : IsScheduled n (run_of w p) (run_of after q) → IsScheduled number (begun w) (run_of after q)
  from_begun scheduled = subst (λ (r : RunParts). IsScheduled number r (run_of after q)) is_begun
      (subst (λ (k : ℕ). IsScheduled k (run_of w p) (run_of after q)) is_number scheduled)

  -- its end
  pub scheduled_end : (end : SimEnd) → IsScheduled n (run_of w p) (run_of after q) → IsEndOf (run_of after q) end →
      IsEndOfSchedule number w after end
  scheduled_end end scheduled is = record {
    run = run_of after q;
    scheduled = from_begun scheduled;
    after_is = refl;
    end_is = is;
  }

  -- which is lawful
  pub scheduled_lawful : (end : SimEnd) → IsLawful w → IsScheduled n (run_of w p) (run_of after q) →
      IsEndOf (run_of after q) end → IsLawfulFor after end
  scheduled_lawful end lawful scheduled is =
      let played = scheduled.is_played in
      end_settled scheduled.played (run_of after q) end
      ((part_run n (run_of w p) played.turns scheduled.played played.run).lawful lawful) played.over.done
      scheduled.settled scheduled.going is

  -- a schedule that is full
  pub scheduled_full : (fates : List (List Fate)) → IsFullWhere n (run_of w p) (run_of after q) → q.full ≡ true →
      q.fates ≡ fates → IsFullOf number w after fates
  scheduled_full fates met full same = record {
    run = run_of after q;
    full = record {
      met = subst (λ (r : RunParts). IsFullWhere number r (run_of after q)) is_begun
          (subst (λ (k : ℕ). IsFullWhere k (run_of w p) (run_of after q)) is_number met);
      full = full;
    };
    after_is = refl;
    fates_are = same;
  }
