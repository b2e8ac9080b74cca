-- The choice of the fact of a group that a drop removes, made along a walk.
--
--   pick_ages pick ages f      the age that a fact has to a bound: where it picks the greatest, all are of one age
--   aged_order a b             facts with their ages are ordered by age, and those of one age as facts are
--   IsYoungerOf best a r       r is the later of the best so far, if there is one, and of one more fact with its age
--   IsAgedOf ages group a      the fact is of the group, and has its age
--   IsBestOf ages group best   the best is the youngest of the group, and of several the greatest; or there is no fact
use Rattle.std.specs.Prelude.{◌≡◌, true, false, List, [], Option, Some, MatchOption, ◌⊎◌}
use Rattle.std.specs.Ordering.{ordering_then, is_lt}
use Rattle.std.specs.declared.cmp.Ordering.{Ordering}
use Rattle.ipa_spec.specs.declared.bounds.Pick.{Pick}
use Rattle.ipa_spec.specs.declared.bounds.Pick.TheVariants.{Greatest, Youngest}
use Rattle.ipa_logic.specs.Facts.{has, fact_cmp}
use Rattle.ipa_logic.specs.DueDrops.{age_cmp, IsYoungest}
use Rattle.ipa_logic.specs.declared.facts.Age.{Age}
use Rattle.ipa_logic.specs.declared.facts.Fact.{Fact}
use Rattle.ipa_bounds.specs.declared.picks.Aged.{Aged}

-- the age that a fact has to a bound: where it picks the greatest, all are of one age
abbrev pub pick_ages : Pick → (Fact → Age) → Fact → Age
pick_ages Greatest ages f = record { size = 0; origin = 0 }
pick_ages Youngest ages f = ages f

-- facts with their ages are ordered by age, and those of one age as facts are
abbrev pub aged_order : Aged → Aged → Ordering
aged_order a b = ordering_then (age_cmp a.age b.age) (fact_cmp a.fact b.fact)

-- r is the later of the best so far, if there is one, and of one more fact with its age
pub record IsYoungerOf (best : Option Aged) (a r : Aged) : Type 0 where
  pub either : (best ≡ Some r) ⊎ (r ≡ a)
  pub old : (b : Aged) → best ≡ Some b → is_lt (aged_order r b) ≡ false
  pub new : is_lt (aged_order r a) ≡ false

-- the fact is of the group, and has its age
pub record IsAgedOf (ages : Fact → Age) (group : List Fact) (a : Aged) : Type 0 where
  pub among : has group a.fact ≡ true
  pub own : a.age ≡ ages a.fact

-- the best is the youngest of the group, and of several the greatest; or the group has no fact
abbrev pub IsBestOf : (Fact → Age) → List Fact → Option Aged → Type 0
IsBestOf ages group best = MatchOption best (group ≡ []) (λ a. IsYoungest ages group a.fact)
