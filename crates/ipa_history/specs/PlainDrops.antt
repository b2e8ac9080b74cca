-- The tests by which the plain program finds the drop that is due, over the list of the true facts.
--
--   is_exceeded b key facts      the group of the key has more facts than the bound allows
--   is_over b facts              the group of some fact has
--   NoneOver bounds facts        no bound is over
--   IsFirstTested bounds facts n   bound n is the first that is
--   has_lesser b key facts       so has the group of a fact with a lesser key
--   comes_after pick ages f g    f is picked before g: it is greater, or it is younger, or of one age and greater
--   has_later b ages key facts g   a fact of the group is picked before this one
--   is_due b ages facts g        of the bound, the drop of this fact is due: its group is the one of least key that
--                                exceeds the bound, and no fact of it is picked before this one
use Rattle.std.specs.Prelude.{◌≡◌, ℕ, ◌<◌, Bool, true, false, not, ◌&&◌, ◌==◌, nat_lt, List, length, slice_get, Some}
use Rattle.std.specs.List.{list_any}
use Rattle.std.specs.Ordering.{nat_cmp, is_lt, is_le}
use Rattle.std.specs.Cmp.Lexicographic.{slice_cmp}
use Rattle.ipa_spec.specs.declared.bounds.Bound.{Bound}
use Rattle.ipa_spec.specs.declared.bounds.Pick.{Pick}
use Rattle.ipa_spec.specs.declared.bounds.Pick.TheVariants.{Greatest, Youngest}
use Rattle.ipa_logic.specs.Facts.{has, fact_cmp}
use Rattle.ipa_logic.specs.Groups.{key_of, is_in_group, group_of}
use Rattle.ipa_logic.specs.DueDrops.{aged_cmp}
use Rattle.ipa_logic.specs.declared.facts.Age.{Age}
use Rattle.ipa_logic.specs.declared.facts.Fact.{Fact}

-- the group of the key has more facts than the bound allows
abbrev pub is_exceeded : Bound → List ℕ → List Fact → Bool
is_exceeded b key facts = nat_lt b.most (length (group_of b key facts))

-- the group of some fact has
abbrev pub is_over : Bound → List Fact → Bool
is_over b facts = list_any (λ f. is_exceeded b (key_of b f) facts) facts

-- no bound is over
pub record NoneOver (bounds : List Bound) (facts : List Fact) : Type 0 where
  pub each : (m : ℕ) (b : Bound) → slice_get bounds m ≡ Some b → is_over b facts ≡ false

-- bound n is the first that is over
pub record IsFirstTested (bounds : List Bound) (facts : List Fact) (n : ℕ) : Type 0 where
  pub bound : Bound
  pub declared : slice_get bounds n ≡ Some bound
  pub over : is_over bound facts ≡ true
  pub earlier : (m : ℕ) (b : Bound) → m < n → slice_get bounds m ≡ Some b → is_over b facts ≡ false

-- the group of a fact with a lesser key exceeds the bound
abbrev pub has_lesser : Bound → List ℕ → List Fact → Bool
has_lesser b key facts =
    list_any (λ f. is_lt (slice_cmp nat_cmp (key_of b f) key) && is_exceeded b (key_of b f) facts) facts

-- the first fact is picked before the second: it is greater, or it is younger, or of one age and greater
abbrev pub comes_after : Pick → (Fact → Age) → Fact → Fact → Bool
comes_after Greatest ages f g = not (is_le (fact_cmp f g))
comes_after Youngest ages f g = not (is_le (aged_cmp ages f g))

-- a fact of the group is picked before this one
abbrev pub has_later : Bound → (Fact → Age) → List ℕ → List Fact → Fact → Bool
has_later b ages key facts g = list_any (λ f. is_in_group b key f && comes_after b.pick ages f g) facts

-- the fact is true, its group is the one of least key that exceeds the bound, and none of it is picked before this one
abbrev pub is_due : Bound → (Fact → Age) → List Fact → Fact → Bool
is_due b ages facts g =
    (((g.predicate == b.predicate) && has facts g) && is_exceeded b (key_of b g) facts)
    && (not (has_lesser b (key_of b g) facts) && not (has_later b ages (key_of b g) facts g))
