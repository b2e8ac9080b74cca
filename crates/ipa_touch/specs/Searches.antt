-- Searches of the first values on which a test does not pass.
--
--   Fits pins v            where a variable is pinned to an element, v has that element
--   PassPinned             the test passes on all values that fit the pins and agree with these before the place
--   FirstPinned            these fail, and no earlier ones that fit the pins and agree do
--   Covers first end x     the element is from first on and before end
--   IsUpTo best v          there is a best so far, and v does not come before it
--   IsFailed p r           values on which the test does not pass
--   IsFailing p best       the test does not pass on the best so far, if there is one
--   Improves p turned best new   the best so far after the values that are turned
--   IsFirstFailed p r     the first values on which the test does not pass
--   IsEarlierOf one other r      r is the earlier of the two
use Rattle.std.specs.Prelude.{◌≡◌, ℕ, ◌<◌, ◌≤◌, Bool, true, false, List, slice_index_or, Option, Some, None, ◌⊎◌}
use Rattle.std.specs.Ordering.{nat_cmp, is_lt}
use Rattle.std.specs.Cmp.Lexicographic.{slice_cmp}
use Rattle.ipa_logic.specs.Facts.{Universe}
use Rattle.ipa_logic.specs.Truth.{value_at, IsOver, IsEarlier}
use Rattle.ipa_logic.specs.Values.{Agrees}

-- where a variable is pinned to an element, v has that element
pub record Fits (pins : List (Option ℕ)) (v : List ℕ) : Type 0 where
  pub at : (k x : ℕ) → slice_index_or pins k None ≡ Some x → value_at v k ≡ x

-- the test passes on all values that fit the pins and agree with these before the place
pub record PassPinned (p : List ℕ → Bool) (universe : Universe) (sorts : List ℕ) (pins : List (Option ℕ))
    (values : List ℕ) (place : ℕ) : Type 0 where
  pub passes : (v : List ℕ) → IsOver universe sorts v → Fits pins v → Agrees place v values → p v ≡ true

-- the test fails on r, and passes on all earlier values that fit the pins and agree with these before the place
pub record FirstPinned (p : List ℕ → Bool) (universe : Universe) (sorts : List ℕ) (pins : List (Option ℕ))
    (values : List ℕ) (place : ℕ) (r : List ℕ) : Type 0 where
  pub over : IsOver universe sorts r
  pub agrees : Agrees place r values
  pub fails : p r ≡ false
  pub earlier : (v : List ℕ) → IsOver universe sorts v → Fits pins v → Agrees place v values → IsEarlier v r →
      p v ≡ true

-- the element is from first on and before end
pub record Covers (first end x : ℕ) : Type 0 where
  pub from : first ≤ x
  pub below : x < end

-- there is a best so far, and v does not come before it
abbrev pub IsUpTo : Option (List ℕ) → List ℕ → Type 0
IsUpTo None v = ⊥
IsUpTo (Some best) v = is_lt (slice_cmp nat_cmp v best) ≡ false

-- values on which the test does not pass
pub record IsFailed (p : List ℕ → Bool) (universe : Universe) (sorts r : List ℕ) : Type 0 where
  pub over : IsOver universe sorts r
  pub fails : p r ≡ false

-- the test does not pass on the best so far, if there is one
abbrev pub IsFailing : (List ℕ → Bool) → Universe → List ℕ → Option (List ℕ) → Type 0
IsFailing p universe sorts None = Unit {0}
IsFailing p universe sorts (Some r) = IsFailed p universe sorts r

-- the best so far after the values that pass the test `turned`
pub record Improves (p : List ℕ → Bool) (universe : Universe) (sorts : List ℕ) (turned : List ℕ → Bool)
    (best new : Option (List ℕ)) : Type 0 where
  pub failing : IsFailing p universe sorts best → IsFailing p universe sorts new
  pub own : (v : List ℕ) → IsFailed p universe sorts v → turned v ≡ true → IsUpTo new v
  pub others : (v : List ℕ) → IsUpTo best v → IsUpTo new v

-- the first values on which the test does not pass
pub record IsFirstFailed (p : List ℕ → Bool) (universe : Universe) (sorts r : List ℕ) : Type 0 where
  pub over : IsOver universe sorts r
  pub fails : p r ≡ false
  pub earlier : (v : List ℕ) → IsOver universe sorts v → IsEarlier v r → p v ≡ true

-- r is the earlier of the two
pub record IsEarlierOf (one other r : Option (List ℕ)) : Type 0 where
  pub either : (r ≡ one) ⊎ (r ≡ other)
  pub first : (v : List ℕ) → IsUpTo one v → IsUpTo r v
  pub second : (v : List ℕ) → IsUpTo other v → IsUpTo r v
