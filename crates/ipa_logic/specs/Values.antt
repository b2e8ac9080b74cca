-- Values of a clause's variables, searched from some place on, in lexicographic order.
--
--   IsPartial universe sorts values place   values for the variables before the place, and 0 from it on
--   Agrees place v w                        v and w are the same before the place
--   PassFrom p universe sorts values place  p passes on all values that agree with these before the place
--   IsFirstFrom                             the first of them on which it does not
use Rattle.std.specs.Prelude.{◌≡◌, ℕ, ◌<◌, ◌≤◌, Bool, true, false, List, length, slice_get, Some}
use Rattle.ipa_logic.specs.Facts.{Universe, size_of}
use Rattle.ipa_logic.specs.Truth.{value_at, IsOver, IsEarlier}

-- the variables before the place have elements of their sorts, and 0 stands from it on
pub record IsPartial (universe : Universe) (sorts values : List ℕ) (place : ℕ) : Type 0 where
  pub within : place ≤ length sorts
  pub elements : (v sort : ℕ) → v < place → slice_get sorts v ≡ Some sort → value_at values v < size_of universe sort
  pub unused : (v : ℕ) → place ≤ v → value_at values v ≡ 0
  pub width : length values ≡ 4

-- v and w are the same before the place
abbrev pub Agrees : ℕ → List ℕ → List ℕ → Type 0
Agrees place v w = (k : ℕ) → k < place → value_at v k ≡ value_at w k

-- p passes on all values that agree with these before the place
pub record PassFrom (p : List ℕ → Bool) (universe : Universe) (sorts values : List ℕ) (place : ℕ) : Type 0 where
  pub passes : (v : List ℕ) → IsOver universe sorts v → Agrees place v values → p v ≡ true

-- r is the first of the values that agree with these before the place on which p does not pass
pub record IsFirstFrom (p : List ℕ → Bool) (universe : Universe) (sorts values : List ℕ) (place : ℕ) (r : List ℕ) : Type 0 where
  pub over : IsOver universe sorts r
  pub agrees : Agrees place r values
  pub fails : p r ≡ false
  pub earlier : (v : List ℕ) → IsOver universe sorts v → Agrees place v values → IsEarlier v r → p v ≡ true
