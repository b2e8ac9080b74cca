-- How many patterns there are.
--
--   ways n k             the ways of giving classes to n more variables of one sort, of which k classes are in use
--   AreWays row n        the row has them for n variables, by the number of classes in use
--   variables_of sort sorts   how many of the variables are of the sort
--   product_below f n    the product of f at the numbers below n
use Rattle.std.specs.Prelude.{◌≡◌, ℕ, zero, suc, ◌+◌, ◌*◌, ◌≤◌, ◌==◌, List, [], ◌∷◌, length, slice_index, if◌then◌else◌}

-- the ways of giving classes to n more variables of one sort, of which k classes are in use
unfoldable pub ways : ℕ → ℕ → ℕ
ways zero k = 1
ways (suc n) k = k * ways n k + ways n (k + 1)

-- the row has the ways for n variables, by the number of classes in use, where these are at most sixteen with them
pub record AreWays (row : List ℕ) (n : ℕ) : Type 0 where
  pub width : length row ≡ 17
  pub each : (k : ℕ) → k + n ≤ 16 → slice_index row k ≡ ways n k

-- how many of the variables are of the sort
abbrev pub variables_of : ℕ → List ℕ → ℕ
variables_of sort [] = 0
variables_of sort (s ∷ sorts) = if s == sort then 1 + variables_of sort sorts else variables_of sort sorts

-- the product of f at the numbers below n
unfoldable pub product_below : (ℕ → ℕ) → ℕ → ℕ
product_below f zero = 1
product_below f (suc n) = product_below f n * f n
