-- The fates of a run are those that its weathers were due to give.
--
--   IsForecast due asked was is fates      the fates are the first that the weather was due to give, and it has moved on by them
--   AreForecast due asked were are fates   so it is on each of the 64 links
--   IsMore due asked was is given list     the list has more fates than were given, which are so
--   HaveGone due asked were are old new    so it is on each link
use Rattle.std.specs.Prelude.{◌≡◌, ℕ, List, ◌++◌, length, slice_get, Some}
use Rattle.ipa_history.specs.declared.outcomes.Fate.{Fate}
use Rattle.ipa_weather.specs.Forecasts.{raised, HasMoved, WereDue}

-- the fates are the first that the weather was due to give, and it has moved on by as many and was asked as often
pub record IsForecast {X : Type 0} (due : X → ℕ → Fate) (asked : X → ℕ) (was is : X) (fates : List Fate) : Type 0 where
  pub given : WereDue (due was) fates
  pub moved : HasMoved (due was) (due is) (length fates)
  pub counted : asked is ≡ raised (length fates) (asked was)

-- so it is on each of the 64 links
pub record AreForecast {X : Type 0} (due : X → ℕ → Fate) (asked : X → ℕ) (were are : List X) (fates : List (List Fate)) :
    Type 0 where
  pub links : length fates ≡ 64
  pub weathers : length are ≡ 64
  pub each : (i : ℕ) (was is : X) (list : List Fate) → slice_get were i ≡ Some was → slice_get are i ≡ Some is →
      slice_get fates i ≡ Some list → IsForecast due asked was is list

-- the list has more fates than were given, and the weather was due to give them
pub record IsMore {X : Type 0} (due : X → ℕ → Fate) (asked : X → ℕ) (was is : X) (given list : List Fate) : Type 0 where
  pub fates : List Fate
  pub all : list ≡ given ++ fates
  pub forecast : IsForecast due asked was is fates

-- so it is on each link
pub record HaveGone {X : Type 0} (due : X → ℕ → Fate) (asked : X → ℕ) (were are : List X) (old new : List (List Fate)) :
    Type 0 where
  pub weathers : length are ≡ length were
  pub links : length new ≡ length old
  pub each : (i : ℕ) (was is : X) (given list : List Fate) → slice_get were i ≡ Some was → slice_get are i ≡ Some is →
      slice_get old i ≡ Some given → slice_get new i ≡ Some list → IsMore due asked was is given list
