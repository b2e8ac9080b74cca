-- The drop that is due in a state that is over a bound.
--
--   Exceeds b key state            the group of the key has more facts than the bound allows
--   IsWithin b state               no group of the bound exceeds it
--   IsFirstOver bounds state n     bound n is the first, in declared order, that a group exceeds
--   IsLeastOver b key state        the key is the least of those whose groups exceed the bound
--   IsDueGroup bounds state n b key   the group that a drop is due in: of the first bound exceeded, that of the least key
--   aged_cmp ages f g              facts are ordered by age, and facts of one age as facts are
--   IsGreatest group fact          the fact is the greatest of the group
--   IsYoungest ages group fact     the fact is the one of greatest age, and of several the greatest
--   IsPicked pick ages group fact  the fact of a group that a drop removes, by the pick of the bound
--   IsDueDrop bounds state ages n fact   the drop of bound n and this fact is due
--
-- Which group a drop is due in and which of its facts it removes are apart.
use Rattle.std.specs.Prelude.{◌≡◌, ℕ, ◌<◌, ◌≤◌, true, List, length, slice_get, Some}
use Rattle.std.specs.Ordering.{nat_cmp, ordering_then, is_lt, is_le}
use Rattle.std.specs.declared.cmp.Ordering.{Ordering}
use Rattle.std.specs.Cmp.Lexicographic.{slice_cmp}
use Rattle.ipa_spec.specs.declared.bounds.Bound.{Bound}
use Rattle.ipa_spec.specs.declared.bounds.Pick.{Pick}
use Rattle.ipa_spec.specs.declared.bounds.Pick.TheVariants.{Greatest, Youngest}
use Rattle.ipa_logic.specs.Facts.{has, fact_cmp}
use Rattle.ipa_logic.specs.Groups.{group_of}
use Rattle.ipa_logic.specs.declared.facts.Age.{Age}
use Rattle.ipa_logic.specs.declared.facts.Fact.{Fact}

-- the group of the key has more facts than the bound allows
abbrev pub Exceeds : Bound → List ℕ → List Fact → Type 0
Exceeds b key state = b.most < length (group_of b key state)

-- no group of the bound exceeds it
pub record IsWithin (b : Bound) (state : List Fact) : Type 0 where
  pub groups : (key : List ℕ) → length (group_of b key state) ≤ b.most

-- bound n is the first, in declared order, that a group exceeds
pub record IsFirstOver (bounds : List Bound) (state : List Fact) (n : ℕ) : Type 0 where
  pub bound : Bound
  pub declared : slice_get bounds n ≡ Some bound
  pub key : List ℕ
  pub over : Exceeds bound key state
  pub earlier : (m : ℕ) (b : Bound) → m < n → slice_get bounds m ≡ Some b → IsWithin b state

-- the key is the least of those whose groups exceed the bound, in lexicographic order
pub record IsLeastOver (b : Bound) (key : List ℕ) (state : List Fact) : Type 0 where
  pub over : Exceeds b key state
  pub least : (other : List ℕ) → is_lt (slice_cmp nat_cmp other key) ≡ true → length (group_of b other state) ≤ b.most

-- a drop is due in the group of this key of bound n
pub record IsDueGroup (bounds : List Bound) (state : List Fact) (n : ℕ) (b : Bound) (key : List ℕ) : Type 0 where
  pub first : IsFirstOver bounds state n
  pub declared : slice_get bounds n ≡ Some b
  pub least : IsLeastOver b key state

-- ages are ordered by size, and then by origin
abbrev pub age_cmp : Age → Age → Ordering
age_cmp a b = ordering_then (nat_cmp a.size b.size) (nat_cmp a.origin b.origin)

-- facts are ordered by age, and facts of one age as facts are
abbrev pub aged_cmp : (Fact → Age) → Fact → Fact → Ordering
aged_cmp ages f g = ordering_then (age_cmp (ages f) (ages g)) (fact_cmp f g)

-- the fact is the greatest of the group
pub record IsGreatest (group : List Fact) (fact : Fact) : Type 0 where
  pub among : has group fact ≡ true
  pub greatest : (f : Fact) → has group f ≡ true → is_le (fact_cmp f fact) ≡ true

-- the fact is the one of greatest age in the group, and of several the greatest
pub record IsYoungest (ages : Fact → Age) (group : List Fact) (fact : Fact) : Type 0 where
  pub among : has group fact ≡ true
  pub youngest : (f : Fact) → has group f ≡ true → is_le (aged_cmp ages f fact) ≡ true

-- the fact of a group that a drop removes, by the pick of the bound
abbrev pub IsPicked : Pick → (Fact → Age) → List Fact → Fact → Type 0
IsPicked Greatest ages group fact = IsGreatest group fact
IsPicked Youngest ages group fact = IsYoungest ages group fact

-- the drop of bound n and this fact is due in a state with an age for each true fact
pub record IsDueDrop (bounds : List Bound) (state : List Fact) (ages : Fact → Age) (n : ℕ) (fact : Fact) : Type 0 where
  pub bound : Bound
  pub key : List ℕ
  pub group : IsDueGroup bounds state n bound key
  pub removed : IsPicked bound.pick ages (group_of bound key state) fact
