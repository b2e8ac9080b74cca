-- Numbers in order.
--
--   greater a b             the greater of two numbers, where each may be missing
--   within bound n          the number, if it is not above the bound
--   greatest_upto bound ns  the greatest of the numbers that are not above the bound, if there is one
--   AreUpTo ns n            none of the numbers is above n
--   IsWith old n new        the new numbers are the old ones and n
use Rattle.std.specs.Prelude.{◌≡◌, ℕ, ◌≤◌, nat_le, nat_lt, cond, List, [], ◌∷◌, Option, Some, None, ◌⊎◌}
use Rattle.ipa_history.specs.Histories.{IsMember}

-- the greater of two numbers, where each may be missing
abbrev pub greater : Option ℕ → Option ℕ → Option ℕ
greater None other = other
greater (Some n) None = Some n
greater (Some n) (Some m) = Some (cond (nat_lt n m) m n)

-- the number, if it is not above the bound
abbrev pub within : ℕ → ℕ → Option ℕ
within bound n = cond (nat_le n bound) (Some n) None

-- the greatest of the numbers that are not above the bound, if there is one
abbrev pub greatest_upto : ℕ → List ℕ → Option ℕ
greatest_upto bound [] = None
greatest_upto bound (n ∷ ns) = greater (within bound n) (greatest_upto bound ns)

-- none of the numbers is above n
pub record AreUpTo (ns : List ℕ) (n : ℕ) : Type 0 where
  pub low : (m : ℕ) → IsMember ns m → m ≤ n

-- the new numbers are the old ones and n
pub record IsWith (old : List ℕ) (n : ℕ) (new : List ℕ) : Type 0 where
  pub kept : (m : ℕ) → IsMember old m → IsMember new m
  pub added : IsMember new n
  pub only : (m : ℕ) → IsMember new m → IsMember old m ⊎ (m ≡ n)
