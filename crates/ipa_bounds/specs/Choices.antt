-- The choice of the group of least key, made along a walk.
--
--   comes_before b f best       the key of the fact comes before that of the best so far, if there is one
--   first_of b key state        the first fact of the group of the key
--   LeadsExcess b state f       the fact is the first of its group, and the group is over the bound
--   IsUpTo b best key           the key of the best so far does not come after this key
--   IsOverBest b state best     the group of the best so far, if there is one, is over the bound
--   Improves b state best f new   the best so far after one more fact
--   IsChosen b state ages f     the fact is the one that the bound picks of the group of least key over it
--   IsOverAt bounds state n     a group exceeds bound n
--   IsWithinAt bounds state n   none does
use Rattle.std.specs.Prelude.{◌≡◌, ℕ, Bool, true, false, List, slice_get, Option, Some, None}
use Rattle.std.specs.Ordering.{nat_cmp, is_lt}
use Rattle.std.specs.Cmp.Lexicographic.{slice_cmp}
use Rattle.ipa_spec.specs.declared.bounds.Bound.{Bound}
use Rattle.ipa_logic.specs.Groups.{key_of, group_of}
use Rattle.ipa_logic.specs.Views.{next_fact}
use Rattle.ipa_logic.specs.DueDrops.{Exceeds, IsWithin, IsLeastOver, IsPicked}
use Rattle.ipa_logic.specs.declared.facts.Age.{Age}
use Rattle.ipa_logic.specs.declared.facts.Fact.{Fact}

-- the key of the fact comes before that of the best so far, if there is one
abbrev pub comes_before : Bound → Fact → Option Fact → Bool
comes_before b f None = true
comes_before b f (Some best) = is_lt (slice_cmp nat_cmp (key_of b f) (key_of b best))

-- the first fact of the group of this key
abbrev pub first_of : Bound → List ℕ → List Fact → Option Fact
first_of b key state = next_fact (group_of b key state) b.predicate None

-- the fact is the first of its group, and the group is over the bound
pub record LeadsExcess (b : Bound) (state : List Fact) (f : Fact) : Type 0 where
  pub first : first_of b (key_of b f) state ≡ Some f
  pub over : Exceeds b (key_of b f) state

-- there is a best so far, and this key does not come before its key
abbrev pub IsUpTo : Bound → Option Fact → List ℕ → Type 0
IsUpTo b None key = ⊥
IsUpTo b (Some best) key = is_lt (slice_cmp nat_cmp key (key_of b best)) ≡ false

-- the group of the best so far, if there is one, is over the bound
abbrev pub IsOverBest : Bound → List Fact → Option Fact → Type 0
IsOverBest b state None = Unit {0}
IsOverBest b state (Some best) = Exceeds b (key_of b best) state

-- the best so far after one more fact
pub record Improves (b : Bound) (state : List Fact) (best : Option Fact) (f : Fact) (new : Option Fact) : Type 0 where
  pub over : IsOverBest b state best → IsOverBest b state new
  pub own : LeadsExcess b state f → IsUpTo b new (key_of b f)
  pub others : (key : List ℕ) → IsUpTo b best key → IsUpTo b new key

-- the fact is the one that the bound picks of the group of least key over it
pub record IsChosen (b : Bound) (state : List Fact) (ages : Fact → Age) (f : Fact) : Type 0 where
  pub key : List ℕ
  pub group : IsLeastOver b key state
  pub picked : IsPicked b.pick ages (group_of b key state) f

-- a group exceeds bound n
pub record IsOverAt (bounds : List Bound) (state : List Fact) (n : ℕ) : Type 0 where
  pub bound : Bound
  pub declared : slice_get bounds n ≡ Some bound
  pub key : List ℕ
  pub over : Exceeds bound key state

-- no group exceeds bound n
pub record IsWithinAt (bounds : List Bound) (state : List Fact) (n : ℕ) : Type 0 where
  pub within : (b : Bound) → slice_get bounds n ≡ Some b → IsWithin b state
